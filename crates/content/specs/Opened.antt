-- What a closed text is computed with, opened together by `unfolding opened`: this crate's definitions and those
-- beneath.
use Rattle.content.specs.Contents
use Rattle.posting.specs.Opened as postings

unfoldable pub opened : Unit {0}
unfolding postings.opened Contents.hard_account Contents.hard_string Contents.tolerance Contents.balance_of
    Contents.one_currency Contents.further Contents.currencies Contents.booking Contents.open_of Contents.pad_of
    Contents.event_of
opened = tt
