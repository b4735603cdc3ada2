-- How the byte at a place steps what the code keeps of a literal.
use Prim.Native.Nat.{ℕ, ◌+◌, ◌-◌, ◌*◌, ◌≤◌, ◌<◌}
use mathlib.Core.Path.{◌≡◌, refl}
use mathlib.Core.Bool.{Bool, true, false, cond}
use mathlib.Core.List.{List}
use native.Mathlib.Omega.{arith}
use lib.Dec.{eqb, leb}
use lib.ListN.{length, drop, get_or, drop_of_length-le}
use borrow.Author.Tests.{lt-ltb, le-ltb, eq-eqb, ne_eqb, leb-true, eqb-true, eqb-false}
use Rattle.text.specs.Bytes.{is_digit}
use Rattle.text.proofs.TestLaws.{and_left, and_right}
use Rattle.text.proofs.Steps.{drop_step}
use Rattle.amount.specs.Literal.{in_literal}
use Rattle.amount.specs.steps.Kept.{grown, whole_from, fraction_from}

-- ---- the byte

-- a digit
pub digit_range : (b : ℕ) → is_digit b ≡ true → (48 ≤ b) × (b ≤ 57)
unfolding is_digit
digit_range b d = (leb-true 48 b (and_left _ (leb b 57) d), leb-true b 57 (and_right (leb 48 b) _ d))

-- by cases on what it is in a literal
pub data Byte (b : ℕ) : Type 0 where
  digit : is_digit b ≡ true → eqb b 46 ≡ false → in_literal b ≡ true → Byte b
  comma : is_digit b ≡ false → b ≡ 44 → eqb b 46 ≡ false → in_literal b ≡ true → Byte b
  point : is_digit b ≡ false → (b ≡ 44 → ⊥) → eqb b 46 ≡ true → in_literal b ≡ true → Byte b
  other : is_digit b ≡ false → (b ≡ 44 → ⊥) → eqb b 46 ≡ false → in_literal b ≡ false → Byte b

pub byte : (b : ℕ) → Byte b
unfolding in_literal
byte b = by (is_digit b) refl (eqb b 46) refl (eqb b 44) refl
  where
    by : (d : Bool) → is_digit b ≡ d → (p : Bool) → eqb b 46 ≡ p → (c : Bool) → eqb b 44 ≡ c → Byte b
    by true d p f c g = let r = digit_range b d in digit d (ne_eqb b 46 (λ e. omega arith)) (rw d)
    by false d true f c g = let e = eqb-true b 46 f in point d (λ h. omega arith) f (rw (d, f))
    by false d false f true g = comma d (eqb-true b 44 g) f (rw (d, f, g))
    by false d false f false g = other d (eqb-false b 44 g) f (rw (d, f, g))

-- ---- the whole part

module _ (n : ℕ) (seen : Bool) (s : List ℕ) (i : ℕ) where
  pub whole_digit : i < length s → is_digit (get_or s i 0) ≡ true → whole_from n seen (drop i s) i ≡ whole_from (grown n (get_or s i 0 - 48)) true (drop (i + 1) s) (i + 1)
  unfolding whole_from
  whole_digit h d = rw (drop_step s i h, d)

  pub whole_comma : i < length s → is_digit (get_or s i 0) ≡ false → get_or s i 0 ≡ 44 → whole_from n seen (drop i s) i ≡ whole_from n seen (drop (i + 1) s) (i + 1)
  unfolding whole_from
  whole_comma h d e = rw (drop_step s i h, d, eq-eqb _ _ e)

  pub whole_stops : i < length s → is_digit (get_or s i 0) ≡ false → (get_or s i 0 ≡ 44 → ⊥) → whole_from n seen (drop i s) i ≡ record { end = i; size = n; digits = seen }
  unfolding whole_from
  whole_stops h d e = rw (drop_step s i h, d, ne_eqb _ _ e)

  pub whole_ends : length s ≤ i → whole_from n seen (drop i s) i ≡ record { end = i; size = n; digits = seen }
  unfolding whole_from
  whole_ends h = rw (drop_of_length-le s h)

-- ---- the digits after the point

module _ (n k : ℕ) (seen tail : Bool) (s : List ℕ) (i : ℕ) where
  pub place_digit : i < length s → is_digit (get_or s i 0) ≡ true → k < 6 → fraction_from n k seen tail (drop i s) i ≡ fraction_from (n * 10 + (get_or s i 0 - 48)) (k + 1) true tail (drop (i + 1) s) (i + 1)
  unfolding fraction_from
  place_digit h d l = rw (drop_step s i h, d, lt-ltb _ _ l)

  pub past_digit : i < length s → is_digit (get_or s i 0) ≡ true → 6 ≤ k → fraction_from n k seen tail (drop i s) i ≡ fraction_from n k true (cond (eqb (get_or s i 0) 48) tail true) (drop (i + 1) s) (i + 1)
  unfolding fraction_from
  past_digit h d l = rw (drop_step s i h, d, le-ltb _ _ l)

  pub fraction_comma : i < length s → is_digit (get_or s i 0) ≡ false → get_or s i 0 ≡ 44 → fraction_from n k seen tail (drop i s) i ≡ fraction_from n k seen tail (drop (i + 1) s) (i + 1)
  unfolding fraction_from
  fraction_comma h d e = rw (drop_step s i h, d, eq-eqb _ _ e)

  pub fraction_stops : i < length s → is_digit (get_or s i 0) ≡ false → (get_or s i 0 ≡ 44 → ⊥) → fraction_from n k seen tail (drop i s) i ≡ record { end = i; size = n; places = k; digits = seen; tail = tail }
  unfolding fraction_from
  fraction_stops h d e = rw (drop_step s i h, d, ne_eqb _ _ e)

  pub fraction_ends : length s ≤ i → fraction_from n k seen tail (drop i s) i ≡ record { end = i; size = n; places = k; digits = seen; tail = tail }
  unfolding fraction_from
  fraction_ends h = rw (drop_of_length-le s h)
