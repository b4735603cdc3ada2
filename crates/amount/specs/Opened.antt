-- What a closed text is computed with, opened together by `unfolding opened`: this crate's definitions and those
-- beneath.
use Rattle.amount.specs.Literal
use Rattle.amount.specs.Expression
use Rattle.amount.specs.Details
use Rattle.amount.specs.Amounts
use Rattle.text.specs.Opened as texts
use Rattle.decimal.specs.Opened as decimals

unfoldable pub opened : Unit {0}
unfolding texts.opened decimals.opened Literal.in_literal Literal.count Literal.number Literal.places Literal.is_number
    Literal.literal_as Literal.unsigned Literal.literal Expression.negated_value Expression.operated Expression.combined
    Expression.is_plus Expression.is_times Expression.goes_on Expression.chain Expression.atom Expression.products
    Expression.sums Expression.negation Expression.in_group Expression.closed Expression.group Expression.within
    Expression.expression_in Expression.expression Details.quoted Amounts.amount Amounts.hard_currency
    Amounts.hard_amount Amounts.price_of
opened = tt
