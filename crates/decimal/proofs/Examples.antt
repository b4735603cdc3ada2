-- The examples hold, by computation.
use Rattle.std.specs.Prelude.{◌≡◌, refl, map}
use Rattle.decimal.specs.Rounding.{rounded_of, nearest_size, nearest}
use Rattle.decimal.specs.Exact.{decimal_of, exact, exactly, value_in, negated, sum, difference, product, quotient}
use Rattle.decimal.specs.Examples.{examples}

pub examples_hold : map (λ e. e.0) examples ≡ map (λ e. e.1) examples
unfolding decimal_of exact exactly rounded_of nearest_size nearest value_in negated sum difference product quotient
examples_hold = refl
