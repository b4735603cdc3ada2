-- What the code keeps of the digits of a literal. The literal's own meaning is `literal_as`: a law shows that what is
-- kept comes to it.
use Rattle.decimal.specs.Faults.{Value, large_fault}
use Rattle.std.specs.Prelude.{ℕ, ◌+◌, ◌-◌, ◌*◌, ◌^◌, Bool, true, false, cond, List, [], ◌∷◌, ltb, eqb, get_or, drop, Err}
use Prim.Native.Char.{code}
use Rattle.decimal.specs.steps.Judged.{judged_of}
use Rattle.text.specs.Bytes.{is_digit}
use Rattle.text.specs.Answer.{Ans, To, Miss}
use Rattle.amount.specs.declared.literal.Whole.{Whole}
use Rattle.amount.specs.declared.literal.Fraction.{Fraction}

-- a whole part is kept below it: nine digits, and one that makes it too large
abbrev pub whole_limit : ℕ
whole_limit = 10000000000

-- with its places, in millionths, no number that is kept is above it
abbrev pub kept_limit : ℕ
kept_limit = 10000000000000000

-- the number of the digits before the point: it stops growing once it is too large
abbrev pub grown : ℕ → ℕ → ℕ
grown n d = cond (ltb n 1000000000) (n * 10 + d) n

-- in a text that starts at place i: the digits and commas that go on a whole part
unfoldable pub whole_from : ℕ → Bool → List ℕ → ℕ → Whole
whole_from n seen [] i = record { end = i; size = n; digits = seen }
whole_from n seen (b ∷ s) i =
    cond (is_digit b) (whole_from (grown n (b - code "0")) true s (i + 1))
    (cond (eqb b (code ",")) (whole_from n seen s (i + 1)) (record { end = i; size = n; digits = seen }))

-- the digits and commas that go on a fraction: six places are kept, and of the others whether they are all 0
unfoldable pub fraction_from : ℕ → ℕ → Bool → Bool → List ℕ → ℕ → Fraction
fraction_from n k seen tail [] i = record { end = i; size = n; places = k; digits = seen; tail = tail }
fraction_from n k seen tail (b ∷ s) i =
    cond (is_digit b)
    (cond (ltb k 6) (fraction_from (n * 10 + (b - code "0")) (k + 1) true tail s (i + 1)) (fraction_from n k true (cond (eqb b (code "0")) tail true) s (i + 1)))
    (cond (eqb b (code ",")) (fraction_from n k seen tail s (i + 1)) (record { end = i; size = n; places = k; digits = seen; tail = tail }))

-- what makes millionths of a number with k places
unfoldable pub factor : ℕ → ℕ
factor k = 10 ^ (6 - k)

-- the value of a whole part, and of its digits with those of k places after the point
unfoldable pub kept_value : Bool → ℕ → ℕ → ℕ → Bool → Value
kept_value minus whole n k tail = cond (ltb whole 1000000000) (judged_of minus (n * factor k) (cond tail 1 0)) (Err large_fault)

-- a literal whose whole part w ends where no point stands
unfoldable pub whole_literal : Bool → Whole → Ans Value
whole_literal minus w = cond w.digits (To w.end (kept_value minus w.size w.size 0 false)) Miss

-- a literal whose whole part has that size, and whose digits after the point are f: a second point makes it a miss
unfoldable pub ended : Bool → List ℕ → ℕ → Fraction → Ans Value
ended minus s whole f =
    cond (eqb (get_or s f.end 0) (code ".")) Miss
    (cond f.digits (To f.end (kept_value minus whole f.size f.places f.tail)) Miss)

-- a literal with a point after its whole part w
unfoldable pub point_literal : Bool → List ℕ → Whole → Ans Value
point_literal minus s w =
    ended minus s w.size (fraction_from w.size 0 w.digits false (drop (w.end + 1) s) (w.end + 1))
