-- The answers at dates, each from what the code knows where it gives it.
use Rattle.std.specs.Prelude.{None, Option, Some}
use Prim.Native.Nat.{ℕ, ◌+◌, ◌-◌, ◌*◌, ◌≤◌, ◌<◌}
use native.Mathlib.Omega.{arith}
use mathlib.Core.Path.{◌≡◌, refl, sym}
use mathlib.Core.Bool.{Bool, true, false, ◌&&◌, and-true, and-false, and_assoc}
use mathlib.Core.List.{List, [], ◌∷◌}
use lib.Dec.{eqb, leb}
use lib.ListN.{length, drop, get_or, length-drop}
use Rattle.text.specs.Bytes.{is_digit}
use Rattle.text.specs.Dates.{as_shape, like_shape, date_shape, two, date_in, date_at}
use Rattle.text.proofs.Steps.{drop_step}

-- two digits at a place, x and y what the code's tests gave
abbrev two_at : List ℕ → ℕ → Bool
two_at s i = is_digit (get_or s i 0) && is_digit (get_or s (i + 1) 0)

pub two_tested : (s : List ℕ) (i : ℕ) (x y : Bool) → x ≡ is_digit (get_or s i 0) → y ≡ is_digit (get_or s (i + 1) 0) → (x && y) ≡ two_at s i
two_tested s i x y e f = rw (e, f)

-- a shape at place i: one byte of it, a dash, two digits; then what is left of it at place j
module _ (w s : List ℕ) (i j : ℕ) where
  like_byte : (c : ℕ) → i < length s → j ≡ i + 1 → like_shape (c ∷ w) (drop i s) ≡ (as_shape c (get_or s i 0) && like_shape w (drop j s))
  unfolding like_shape
  like_byte c h e = rw (drop_step s i h, e)

  like_dash : i < length s → j ≡ i + 1 → like_shape (45 ∷ w) (drop i s) ≡ (eqb (get_or s i 0) 45 && like_shape w (drop j s))
  unfolding as_shape
  like_dash h e = like_byte 45 h e

like_two : (w s : List ℕ) (i j : ℕ) (r : Bool) → i + 1 < length s → j ≡ i + 2 → r ≡ two_at s i
    → like_shape (48 ∷ 48 ∷ w) (drop i s) ≡ (r && like_shape w (drop j s))
unfolding as_shape
like_two w s i j r h e f =
    rw (like_byte (48 ∷ w) s i (i + 1) 48 (omega arith) refl, like_byte w s (i + 1) j 48 h (omega arith), f)
    (sym (and_assoc (is_digit (get_or s i 0)) (is_digit (get_or s (i + 1) 0)) (like_shape w (drop j s))))

-- the ten bytes of a date
pub shape_tested : (s : List ℕ) (at : ℕ) (p q r t : Bool) → at + 10 ≤ length s
    → p ≡ two_at s at → q ≡ two_at s (at + 2) → r ≡ two_at s (at + 5) → t ≡ two_at s (at + 8)
    → (p && q && eqb (get_or s (at + 4) 0) 45 && r && eqb (get_or s (at + 7) 0) 45 && t) ≡ like_shape date_shape (drop at s)
unfolding like_shape
shape_tested s at p q r t h e f g k =
    rw (like_two _ s at (at + 2) p (omega arith) refl e, like_two _ s (at + 2) (at + 4) q (omega arith) (omega arith) f)
    (rw (like_dash _ s (at + 4) (at + 5) (omega arith) (omega arith), like_two _ s (at + 5) (at + 7) r (omega arith) (omega arith) g)
    (rw (like_dash _ s (at + 7) (at + 8) (omega arith) (omega arith), like_two _ s (at + 8) (at + 10) t (omega arith) (omega arith) k)
    (grouped p q (eqb (get_or s (at + 4) 0) 45) r (eqb (get_or s (at + 7) 0) 45) t)))
  where
    grouped : (p q m r n t : Bool) → (p && q && m && r && n && t) ≡ (p && (q && (m && (r && (n && (t && true))))))
    grouped true true true true true t = sym (and-true t)
    grouped true true true true false t = refl
    grouped true true true false n t = refl
    grouped true true false r n t = refl
    grouped true false m r n t = refl
    grouped false q m r n t = refl

-- a text shorter than a shape is not like it
pub like_length : (w s : List ℕ) → length s < length w → like_shape w s ≡ false
unfolding like_shape
like_length [] s h = absurd (omega arith)
like_length (c ∷ w) [] h = refl
like_length (c ∷ w) (b ∷ s) h = rw (like_length w s (omega arith)) (and-false (as_shape c b))

module _ (s : List ℕ) (at : ℕ) where
  -- the month m and the day d, at the shape of a date
  module _ (m d : ℕ) (p : m ≡ two s (at + 5)) (q : d ≡ two s (at + 8)) where
    pub in_read : (leb 1 m && leb m 12 && leb 1 d && leb d 31) ≡ true → (y z : ℕ) → y ≡ two s at → z ≡ two s (at + 2) → Some ((at + 10), (y * 1000000 + z * 10000 + m * 100 + d)) ≡ date_in s at
    unfolding date_in
    in_read t y z e f = rw (e, f, ← p, ← q, t)

    pub in_no : (leb 1 m && leb m 12 && leb 1 d && leb d 31) ≡ false → None ≡ date_in s at
    unfolding date_in
    in_no t = rw (← p, ← q, t)

  -- a date, or a text too short for one
  past : length s < at + 10 → None ≡ date_at s at
  unfolding date_at
  past h = rw (like_length date_shape (drop at s) (omega (arith, length-drop at s)))

  pub date_short : length s < 10 → None ≡ date_at s at
  date_short h = past (omega arith)

  pub date_late : length s - 10 < at → None ≡ date_at s at
  date_late h = past (omega arith)

  pub date_read : (r : Bool) (o : Option (ℕ × ℕ)) → r ≡ like_shape date_shape (drop at s) → r ≡ true → o ≡ date_in s at → o ≡ date_at s at
  unfolding date_at
  date_read r o p q u = cc

  pub date_no : (r : Bool) → r ≡ like_shape date_shape (drop at s) → r ≡ false → None ≡ date_at s at
  unfolding date_at
  date_no r p q = cc

pub ruleset two_laws = two_tested

pub ruleset shape_laws = shape_tested

pub ruleset in_laws = (in_read, in_no)

pub ruleset date_laws = (date_short, date_late, date_read, date_no)
