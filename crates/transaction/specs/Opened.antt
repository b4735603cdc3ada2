-- What a closed text is computed with, opened together by `unfolding opened`: this crate's definitions and those
-- beneath.
use Rattle.transaction.specs.Transaction
use Rattle.posting.specs.Opened as postings

unfoldable pub opened : Unit {0}
unfolding postings.opened Transaction.opening Transaction.texts Transaction.mark Transaction.marks
    Transaction.transaction
opened = tt
