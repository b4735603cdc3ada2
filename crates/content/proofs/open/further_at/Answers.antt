use Rattle.content.proofs.OpenLaws.{further_laws}
use borrow.Author.Rules.{rules}
use Rattle.content.proofs.open.further_at.Goals as goal

pub returns-in_err-j : goal.returns-in_err-j
returns-in_err-j c = search (rules, further_laws, c.in_err-j.was)

pub returns : goal.returns
returns c = search (rules, further_laws, c.in_ok-j.was)
