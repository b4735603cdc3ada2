-- What the number of a date is that was read, and where its text ends.
use Rattle.std.specs.Prelude.{None, Some}
use Prim.Native.Nat.{ℕ, zero, suc, ◌+◌, ◌-◌, ◌*◌, ◌/◌, ◌%◌, ◌≤◌, ◌<◌}
use native.Mathlib.Omega.{arith}
use mathlib.Core.Path.{◌≡◌, refl}
use mathlib.Core.Bool.{Bool, true, false, cond, ◌&&◌}
use mathlib.Core.List.{List, [], ◌∷◌}
use borrow.Author.Tests.{leb-true}
use lib.Dec.{leb}
use lib.ListN.{length, get_or, drop}
use lib.Seq.{get_or-drop}
use Rattle.text.specs.Bytes.{is_digit}
use Rattle.text.specs.Dates.{as_shape, like_shape, date_shape, two, date_in, date_at}
use Rattle.text.specs.Answer.{To}
use Rattle.text.specs.Leaves.{date, dated}
use Rattle.text.proofs.TestLaws.{absurd_bool, and_left, and_right}
use Rattle.text.proofs.Inversions.{not_miss}

pub record Day (p : ℕ) : Type 0 where
  pub low : p < 100000000
  pub from_month : 1 ≤ p / 100 % 100
  pub to_month : p / 100 % 100 ≤ 12
  pub from_day : 1 ≤ p % 100
  pub to_day : p % 100 ≤ 31

-- a byte of a text that is like a shape
shape_byte : (ws t : List ℕ) (k : ℕ) → like_shape ws t ≡ true → k < length ws → as_shape (get_or ws k 0) (get_or t k 0) ≡ true
unfolding like_shape
shape_byte [] t k e h = absurd (omega arith)
shape_byte (w ∷ ws) [] k e h = absurd_bool e
shape_byte (w ∷ ws) (b ∷ t) zero e h = and_left (as_shape w b) (like_shape ws t) e
shape_byte (w ∷ ws) (b ∷ t) (suc k) e h = shape_byte ws t k (and_right (as_shape w b) (like_shape ws t) e) (omega arith)

digit_low : (b : ℕ) → is_digit b ≡ true → b - 48 ≤ 9
unfolding is_digit
digit_low b e = omega (arith, leb-true b 57 (and_right (leb 48 b) (leb b 57) e))

module _ (s : List ℕ) (at : ℕ) where
  two_low : like_shape date_shape (drop at s) ≡ true → (i k : ℕ) → i ≡ at + k → k + 1 < 10 → get_or date_shape k 0 ≡ 48 → get_or date_shape (k + 1) 0 ≡ 48 → two s i ≤ 99
  unfolding two as_shape
  two_low l i k f g x y =
      let a = rw (x, get_or-drop at s k 0) at (shape_byte date_shape (drop at s) k l (omega arith)) in
      let b = rw (y, get_or-drop at s (k + 1) 0) at (shape_byte date_shape (drop at s) (k + 1) l g) in
      let z : i + 1 ≡ at + (k + 1) = omega arith in
      rw (z, f) (omega (arith, digit_low (get_or s (at + k) 0) a, digit_low (get_or s (at + (k + 1)) 0) b))

  pub date_there : (e p : ℕ) → date s at ≡ To e p → Day p × (e ≡ at + 10)
  unfolding date date_at dated date_in
  date_there e p h = go (like_shape date_shape (drop at s)) refl h
    where
      m : ℕ
      m = two s (at + 5)

      d : ℕ
      d = two s (at + 8)

      q : ℕ
      q = two s at * 1000000 + two s (at + 2) * 10000 + m * 100 + d

      in_range : like_shape date_shape (drop at s) ≡ true → (a b c f : Bool) → leb 1 m ≡ a → leb m 12 ≡ b → leb 1 d ≡ c → leb d 31 ≡ f
          → dated (cond (a && b && c && f) (Some ((at + 10), q)) None) ≡ To e p → Day p × (e ≡ at + 10)
      in_range l true true true true x y z w h =
          let f : p ≡ q = cc in
          let g : e ≡ at + 10 = cc in
          let i = two_low l at 0 (omega arith) (omega arith) refl refl in
          let j = two_low l (at + 2) 2 refl (omega arith) refl refl in
          let xx = leb-true 1 m x in
          let yy = leb-true m 12 y in
          let zz = leb-true 1 d z in
          let ww = leb-true d 31 w in
          let mm : p / 100 % 100 ≡ m = rw f (omega arith) in
          let dd : p % 100 ≡ d = rw f (omega arith) in
          (record { low = rw f (omega arith); from_month = omega arith; to_month = omega arith; from_day = omega arith; to_day = omega arith }, g)
      in_range l false b c f x y z w h = not_miss h
      in_range l true false c f x y z w h = not_miss h
      in_range l true true false f x y z w h = not_miss h
      in_range l true true true false x y z w h = not_miss h

      go : (b : Bool) → like_shape date_shape (drop at s) ≡ b
          → dated (cond b (cond (leb 1 m && leb m 12 && leb 1 d && leb d 31) (Some ((at + 10), q)) None) None) ≡ To e p → Day p × (e ≡ at + 10)
      go true l h = in_range l (leb 1 m) (leb m 12) (leb 1 d) (leb d 31) refl refl refl refl h
      go false l h = not_miss h

-- ---- the first byte of a date

shape_digit : (s : List ℕ) → like_shape date_shape s ≡ true → is_digit (get_or s 0 0) ≡ true
unfolding as_shape
shape_digit s l = shape_byte date_shape s 0 l (omega arith)

pub date_head : (s : List ℕ) (e p : ℕ) → date s 0 ≡ To e p → is_digit (get_or s 0 0) ≡ true
unfolding date date_at dated
date_head s e p h = go (like_shape date_shape s) refl h
  where
    go : (b : Bool) → like_shape date_shape s ≡ b → dated (cond b (date_in s 0) None) ≡ To e p → is_digit (get_or s 0 0) ≡ true
    go true l h = shape_digit s l
    go false l h = not_miss h
