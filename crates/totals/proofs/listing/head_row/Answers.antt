use Rattle.totals.proofs.ListingLaws.{head_laws}
use borrow.Author.Rules.{rules}
use Rattle.totals.proofs.listing.head_row.Goals as goal

pub returns : goal.returns
returns c = search (rules, head_laws)
