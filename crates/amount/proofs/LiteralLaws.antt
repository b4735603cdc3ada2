-- The answers of the code that reads a literal: at each return, and each way round a loop, what the code knows there. r
-- is what its test for a digit gave.
use Rattle.text.specs.steps.Told.{Reading}
use Rattle.text.specs.declared.stop.Stop.{Stop}
use Rattle.decimal.specs.Faults.{Value, large_fault}
use Rattle.std.specs.Prelude.{Err, Ok}
use Prim.Native.Nat.{ℕ, ◌+◌, ◌-◌, ◌*◌, ◌^◌, ◌≤◌, ◌<◌, max}
use mathlib.Core.Path.{◌≡◌, sym, ◌∙◌, ap}
use mathlib.Core.Bool.{Bool, true, false, cond}
use mathlib.Core.List.{List}
use native.Mathlib.Omega.{arith}
use native.Mathlib.Nat.{add-mul, mul_assoc, mul_right_comm, mul-le-mul_right, le-mul_of_pos_right, sub-eq-zero_of_le}
use lib.Dec.{eqb}
use lib.ListN.{length, drop, get_or}
use mir.Syntax.{w64}
use mir.Val.{Fits}
use borrow.Author.Tests.{lt-ltb, le-ltb, eq-eqb, ne_eqb}
use borrow.Author.Rules.{Fits-under}
use Rattle.decimal.specs.steps.Judged.{judged_of}
use Rattle.text.specs.Bytes.{is_digit, is_space}
use Rattle.text.specs.Run.{run_to}
use Rattle.text.proofs.Steps.{get_d_past, byte_within}
use Rattle.amount.specs.Literal.{unsigned, literal}
use Rattle.amount.specs.steps.Answers.{answer_of}
use Rattle.amount.specs.steps.Kept.{whole_from, fraction_from, factor, kept_value, ended, whole_literal, point_literal, whole_limit, kept_limit}
use Rattle.amount.specs.declared.literal.Whole.{Whole}
use Rattle.amount.specs.declared.literal.Fraction.{Fraction}
use Rattle.amount.proofs.Digits.{factor_pos, factor_more}
use Rattle.amount.proofs.ByteSteps.{digit_range, whole_digit, whole_comma, whole_stops, whole_ends, place_digit, past_digit, fraction_comma, fraction_stops, fraction_ends}
use Rattle.amount.proofs.Literals.{point_is, no_point_is}

-- ---- a digit's byte

module _ (r : Bool) (b : ℕ) (e : r ≡ is_digit b) (t : r ≡ true) where
  pub digit_low : 48 ≤ b
  digit_low = (digit_range b (sym e ∙ t)).0

  pub small_more : (n x u : ℕ) → n < 1000000000 → x ≡ b - 48 → u ≡ n * 10 + x → u < whole_limit
  small_more n x u l f g = let d = digit_range b (sym e ∙ t) in omega arith

  pub small_fits : (n x : ℕ) → n < 1000000000 → x ≡ b - 48 → Fits w64 (n * 10 + x)
  small_fits n x l f = let d = digit_range b (sym e ∙ t) in Fits-under w64 (n * 10 + x) whole_limit (omega arith) tt

-- ---- a whole part: the invariant is that a is what the bytes from i on make of what was kept before

module _ (a : Whole) (n : ℕ) (seen : Bool) (s : List ℕ) (i : ℕ) (v : a ≡ whole_from n seen (drop i s) i) (r : Bool) (e : r ≡ is_digit (get_or s i 0)) (h : i < length s) where
  pub whole_grown : (x u : ℕ) → r ≡ true → n < 1000000000 → x ≡ get_or s i 0 - 48 → u ≡ n * 10 + x → a ≡ whole_from u true (drop (i + 1) s) (i + 1)
  whole_grown x u t l f g = v ∙ whole_digit n seen s i h (sym e ∙ t) ∙ rw (lt-ltb n 1000000000 l, g, f)

  pub whole_full : (u : ℕ) → r ≡ true → 1000000000 ≤ n → u ≡ n → a ≡ whole_from u true (drop (i + 1) s) (i + 1)
  whole_full u t l g = v ∙ whole_digit n seen s i h (sym e ∙ t) ∙ rw (le-ltb n 1000000000 l, g)

  pub whole_skip : r ≡ false → get_or s i 0 ≡ 44 → a ≡ whole_from n seen (drop (i + 1) s) (i + 1)
  whole_skip t c = v ∙ whole_comma n seen s i h (sym e ∙ t) c

  pub whole_out : r ≡ false → (get_or s i 0 ≡ 44 → ⊥) → record { end = i; size = n; digits = seen } ≡ a
  whole_out t c = sym (v ∙ whole_stops n seen s i h (sym e ∙ t) c)

-- the loop from `at` on is over
over : (s : List ℕ) (at i j : ℕ) → length s ≤ i → at ≤ i → i ≤ max at (length s) → j ≡ max at (length s) → j ≡ i
over s at i j h l m e = omega arith

pub whole_done : (a : Whole) (n : ℕ) (seen : Bool) (s : List ℕ) (at i j : ℕ) → a ≡ whole_from n seen (drop i s) i → length s ≤ i → at ≤ i → i ≤ max at (length s)
    → j ≡ max at (length s) → record { end = j; size = n; digits = seen } ≡ a
whole_done a n seen s at i j v h l m e = rw (over s at i j h l m e) (sym (v ∙ whole_ends n seen s i h))

pub ruleset whole_laws = (digit_low, small_more, small_fits, whole_grown, whole_full, whole_skip, whole_out, whole_done)

-- ---- a fraction

-- n with k places leaves room for six
module _ (n k : ℕ) (h : (n + 1) * factor k ≤ kept_limit) where
  room_size : n < kept_limit
  room_size = omega (arith, le-mul_of_pos_right (n + 1) (factor_pos k))

  pub room_times : Fits w64 (n * 10)
  room_times = let l = room_size in Fits-under w64 (n * 10) 1000000000000000000 (omega arith) tt

  pub room_same : (u j : ℕ) → u ≡ n → j ≡ k → (u + 1) * factor j ≤ kept_limit
  room_same u j g i = rw (g, i) h

  pub room_left : n * factor k ≤ kept_limit
  room_left = omega (arith, add-mul n 1 (factor k))

  module _ (r : Bool) (b : ℕ) (e : r ≡ is_digit b) (t : r ≡ true) (x : ℕ) (f : x ≡ b - 48) where
    pub room_fits : Fits w64 (n * 10 + x)
    room_fits = let d = digit_range b (sym e ∙ t) in let l = room_size in Fits-under w64 (n * 10 + x) 1000000000000000000 (omega arith) tt

    pub room_more : (u j : ℕ) → k < 6 → u ≡ n * 10 + x → j ≡ k + 1 → (u + 1) * factor j ≤ kept_limit
    room_more u j l g i =
        let d = digit_range b (sym e ∙ t) in
        let m = mul-le-mul_right {m = u + 1} {n = (n + 1) * 10} (factor (k + 1)) (omega arith) in
        rw i (omega (arith, rw (factor_more k l, ← mul_assoc) at h, mul_right_comm (n + 1) 10 (factor (k + 1))))

-- the invariant again
module _ (a : Fraction) (n k : ℕ) (seen tail : Bool) (s : List ℕ) (i : ℕ) (v : a ≡ fraction_from n k seen tail (drop i s) i) (r : Bool) (e : r ≡ is_digit (get_or s i 0)) (h : i < length s) where
  pub place_grown : (x u j : ℕ) (q : Bool) → r ≡ true → k < 6 → x ≡ get_or s i 0 - 48 → u ≡ n * 10 + x → j ≡ k + 1 → q ≡ tail → a ≡ fraction_from u j true q (drop (i + 1) s) (i + 1)
  place_grown x u j q t l f g c d = v ∙ place_digit n k seen tail s i h (sym e ∙ t) l ∙ rw (g, f, c, d)

  pub past_zero : (u j : ℕ) (q : Bool) → r ≡ true → 6 ≤ k → get_or s i 0 ≡ 48 → u ≡ n → j ≡ k → q ≡ tail → a ≡ fraction_from u j true q (drop (i + 1) s) (i + 1)
  past_zero u j q t l z g c d = v ∙ past_digit n k seen tail s i h (sym e ∙ t) l ∙ rw (eq-eqb _ _ z, g, c, d)

  pub past_other : (u j : ℕ) (q : Bool) → r ≡ true → 6 ≤ k → (get_or s i 0 ≡ 48 → ⊥) → u ≡ n → j ≡ k → q ≡ true → a ≡ fraction_from u j true q (drop (i + 1) s) (i + 1)
  past_other u j q t l z g c d = v ∙ past_digit n k seen tail s i h (sym e ∙ t) l ∙ rw (ne_eqb _ _ z, g, c, d)

  pub fraction_skip : r ≡ false → get_or s i 0 ≡ 44 → a ≡ fraction_from n k seen tail (drop (i + 1) s) (i + 1)
  fraction_skip t c = v ∙ fraction_comma n k seen tail s i h (sym e ∙ t) c

  pub fraction_out : r ≡ false → (get_or s i 0 ≡ 44 → ⊥) → record { end = i; size = n; places = k; digits = seen; tail = tail } ≡ a
  fraction_out t c = sym (v ∙ fraction_stops n k seen tail s i h (sym e ∙ t) c)

pub fraction_done : (a : Fraction) (n k : ℕ) (seen tail : Bool) (s : List ℕ) (at i j : ℕ) → a ≡ fraction_from n k seen tail (drop i s) i → length s ≤ i → at ≤ i
    → i ≤ max at (length s) → j ≡ max at (length s) → record { end = j; size = n; places = k; digits = seen; tail = tail } ≡ a
fraction_done a n k seen tail s at i j v h l m e = rw (over s at i j h l m e) (sym (v ∙ fraction_ends n k seen tail s i h))

pub ruleset fraction_laws = (digit_low, room_times, room_same, room_left, room_fits, room_more, place_grown, past_zero, past_other, fraction_skip, fraction_out, fraction_done)

-- ---- the value

-- the powers that are written out
pub factor_at : (k j r : ℕ) → k ≡ j → r ≡ factor j → r ≡ factor k
factor_at k j r e f = rw e f

pub factor_none : (k : ℕ) → (k ≡ 0 → ⊥) → (k ≡ 1 → ⊥) → (k ≡ 2 → ⊥) → (k ≡ 3 → ⊥) → (k ≡ 4 → ⊥) → (k ≡ 5 → ⊥) → 1 ≡ factor k
unfolding factor
factor_none k a b c d e f = rw (sub-eq-zero_of_le {n = 6} {m = k} (omega arith))

pub ruleset factor_laws = (factor_at, factor_none)

-- f is the power
module _ (m : Bool) (w n k : ℕ) (tail : Bool) where
  pub value_large : 1000000000 ≤ w → Err large_fault ≡ kept_value m w n k tail
  unfolding kept_value
  value_large l = rw (le-ltb w 1000000000 l)

  module _ (f : ℕ) (e : f ≡ factor k) where
    pub value_fits : n * factor k ≤ kept_limit → Fits w64 (n * f)
    value_fits h = rw e (Fits-under w64 (n * factor k) (kept_limit + 1) (omega arith) tt)

    pub value_tail : (v : Value) → v ≡ judged_of m (n * f) 1 → w < 1000000000 → tail ≡ true → v ≡ kept_value m w n k tail
    unfolding kept_value
    value_tail v g l t = rw (lt-ltb w 1000000000 l, t, ← e) g

    pub value_exact : (v : Value) → v ≡ judged_of m (n * f) 0 → w < 1000000000 → tail ≡ false → v ≡ kept_value m w n k tail
    unfolding kept_value
    value_exact v g l t = rw (lt-ltb w 1000000000 l, t, ← e) g

pub ruleset value_laws = (value_large, value_fits, value_tail, value_exact)

-- ---- the answers

-- with no point, and with one, where b is the byte after the fraction f
pub whole_room : (n : ℕ) → n < whole_limit → n * factor 0 ≤ kept_limit
unfolding factor
whole_room n h = omega arith

module _ (m : Bool) (w : Whole) where
  pub whole_read : (v : Value) → w.digits ≡ true → v ≡ kept_value m w.size w.size 0 false → Ok (w.end, v) ≡ answer_of (whole_literal m w)
  unfolding answer_of whole_literal
  whole_read v d e = rw (d, e)

  pub whole_miss : w.digits ≡ false → (Err Stop.Miss) ≡ answer_of (whole_literal m w)
  unfolding answer_of whole_literal
  whole_miss d = rw d

  module _ (s : List ℕ) (f : Fraction) (e : f ≡ fraction_from w.size 0 w.digits false (drop (w.end + 1) s) (w.end + 1)) (b : ℕ) (q : b ≡ get_or s f.end 0) where
    pub second_point : b ≡ 46 → (Err Stop.Miss) ≡ answer_of (point_literal m s w)
    unfolding answer_of point_literal ended
    second_point p = rw (← e, ← q, p)

    pub point_read : (v : Value) → (b ≡ 46 → ⊥) → f.digits ≡ true → v ≡ kept_value m w.size f.size f.places f.tail → Ok (f.end, v) ≡ answer_of (point_literal m s w)
    unfolding answer_of point_literal ended
    point_read v p d g = rw (← e, ← q, ne_eqb b 46 p, d, g)

    pub point_miss : (b ≡ 46 → ⊥) → f.digits ≡ false → (Err Stop.Miss) ≡ answer_of (point_literal m s w)
    unfolding answer_of point_literal ended
    point_miss p d = rw (← e, ← q, ne_eqb b 46 p, d)

pub ruleset answer_laws = (whole_room, whole_read, whole_miss, second_point, point_read, point_miss)

-- after the whole part w: a point, another byte, or the end
module _ (m : Bool) (s : List ℕ) (at c : ℕ) (w : Whole) (e : c ≡ run_to is_space s at) (f : w ≡ whole_from 0 false (drop c s) c) (a : Reading Value) where
  pub point_met : get_or s w.end 0 ≡ 46 → a ≡ answer_of (point_literal m s w) → a ≡ answer_of (unsigned m s at)
  point_met p g = rw (point_is m s at c w e f p) g

  pub other_met : (get_or s w.end 0 ≡ 46 → ⊥) → a ≡ answer_of (whole_literal m w) → a ≡ answer_of (unsigned m s at)
  other_met p g = rw (no_point_is m s at c w e f p) g

  pub end_met : length s ≤ w.end → a ≡ answer_of (whole_literal m w) → a ≡ answer_of (unsigned m s at)
  end_met h g = other_met (λ p. omega (arith, get_d_past s w.end h)) g

pub ruleset unsigned_laws = (point_met, other_met, end_met)

-- the sign
module _ (s : List ℕ) (at b : ℕ) (q : b ≡ get_or s at 0) where
  pub minus_fits : b ≡ 45 → length s < 2 ^ 64 → Fits w64 (at + 1)
  minus_fits p h = let l = byte_within s at b q (omega arith) in record { fits = omega arith }

  pub minus_met : b ≡ 45 → at + 1 ≡ cond (eqb (get_or s at 0) 45) (at + 1) at
  minus_met p = rw (← q, p)

  pub none_met : (b ≡ 45 → ⊥) → at ≡ cond (eqb (get_or s at 0) 45) (at + 1) at
  none_met p = rw (← q, ne_eqb b 45 p)

pub ruleset sign_laws = (minus_fits, minus_met, none_met)

-- b is the byte where a sign may stand, e where it ends
pub sign_met : (s : List ℕ) (at e b : ℕ) (a : Reading Value) → b ≡ get_or s at 0 → e ≡ cond (eqb (get_or s at 0) 45) (at + 1) at → a ≡ answer_of (unsigned (eqb b 45) s e)
    → a ≡ answer_of (literal s at)
unfolding literal
sign_met s at e b a q h g = go (eqb (get_or s at 0) 45) (g ∙ ap (λ n. answer_of (unsigned (eqb n 45) s e)) q ∙ ap (λ n. answer_of (unsigned (eqb (get_or s at 0) 45) s n)) h)
  where
    go : (t : Bool) → a ≡ answer_of (unsigned t s (cond t (at + 1) at)) → a ≡ answer_of (cond t (unsigned true s (at + 1)) (unsigned false s at))
    go true g = g
    go false g = g
