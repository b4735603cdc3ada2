use Rattle.content.proofs.OpenLaws.{listed_laws}
use borrow.Author.Rules.{rules}
use Rattle.content.proofs.open.listed_at.Goals as goal

pub returns-in_err-e : goal.returns-in_err-e
returns-in_err-e c = search (rules, listed_laws, c.in_err-e.was)

pub booking_at-requires : goal.booking_at-requires
booking_at-requires c = search (rules, listed_laws, c.in_ok-e.was)

pub returns : goal.returns
returns c = search (rules, listed_laws, c.in_ok-e.was)
