-- What a closed text is computed with, opened together by `unfolding opened`: this crate's definitions.
use Rattle.decimal.specs.Rounding
use Rattle.decimal.specs.Exact

unfoldable pub opened : Unit {0}
unfolding Rounding.rounded_of Rounding.nearest_size Rounding.nearest Exact.decimal_of Exact.exact Exact.exactly
    Exact.value_in Exact.negated Exact.sum Exact.difference Exact.product Exact.quotient Exact.twos_of
opened = tt
