-- What a closed text is computed with, opened together by `unfolding opened`: this crate's definitions and those
-- beneath.
use Rattle.row.specs.Row
use Rattle.row.specs.Details
use Rattle.amount.specs.Opened as amounts

unfoldable pub opened : Unit {0}
unfolding amounts.opened Row.bytes_of Row.row_of Row.field_bytes Row.row_bytes Row.feeds
    Details.spanned Details.millionths Details.value_place
opened = tt
