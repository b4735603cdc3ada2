use Rattle.content.proofs.OpenLaws.{open_laws}
use borrow.Author.Rules.{rules}
use Rattle.content.proofs.open.open_at.Goals as goal

pub returns-in_err-e : goal.returns-in_err-e
returns-in_err-e c = search (rules, open_laws, c.in_err-e.was)

pub listed_at-requires : goal.listed_at-requires
listed_at-requires c = search (rules, open_laws, c.in_ok-e.was)

pub returns : goal.returns
returns c = search (rules, open_laws, c.in_ok-e.was)
