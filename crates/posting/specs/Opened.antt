-- What a closed text is computed with, opened together by `unfolding opened`: this crate's definitions and those
-- beneath.
use Rattle.posting.specs.Metadata
use Rattle.posting.specs.Costs
use Rattle.posting.specs.Postings
use Rattle.row.specs.Opened as rows

unfoldable pub opened : Unit {0}
unfolding rows.opened Metadata.key_at Metadata.key Metadata.value Metadata.meta_line Metadata.meta_step Metadata.metadata
    Costs.price Costs.inside Costs.cost Postings.is_flag Postings.flag Postings.posting_flag Postings.units
    Postings.posting_line Postings.posting Postings.body_step Postings.body
opened = tt
