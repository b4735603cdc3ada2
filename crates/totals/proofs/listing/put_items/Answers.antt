use Rattle.totals.proofs.ListingLaws.{putting_laws}
use borrow.Author.Rules.{rules}
use Rattle.totals.proofs.listing.put_items.Goals as goal

pub loop-i-init : goal.loop-i-init
loop-i-init c = search (rules, putting_laws)

pub loop-i-preserved : goal.loop-i-preserved
loop-i-preserved c = search (rules, putting_laws)

pub returns : goal.returns
returns c = search (rules, putting_laws)
