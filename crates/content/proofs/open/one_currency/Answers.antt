use Rattle.content.proofs.OpenLaws.{one_laws}
use borrow.Author.Rules.{rules}
use Rattle.content.proofs.open.one_currency.Goals as goal

pub returns-in_err-e : goal.returns-in_err-e
returns-in_err-e c = search (rules, one_laws, c.in_err-e.was)

pub returns : goal.returns
returns c = search (rules, one_laws, c.in_ok-e.was)
