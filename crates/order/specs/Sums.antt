-- Exact sums of values.
use Rattle.decimal.specs.Faults.{Value}
use Rattle.std.specs.Prelude.{ℕ, ◌-◌, cond, List, [], ◌∷◌, ltb, ℤ, pos, neg_ℤ, ◌+ℤ◌}
use Rattle.decimal.specs.Exact.{exactly, word_limit, minus_from}

-- the whole number that eight bytes are, two's complement
unfoldable pub whole_from : ℕ → ℤ
whole_from n = cond (ltb n minus_from) (pos n) (neg_ℤ (pos (word_limit - n)))

unfoldable pub sum_of : List ℤ → ℤ
sum_of [] = pos 0
sum_of (z ∷ zs) = z +ℤ sum_of zs

-- the sum of values, if it is within the limit; 6 if it is too large
unfoldable pub summed : List ℤ → Value
summed zs = exactly (sum_of zs) 1
