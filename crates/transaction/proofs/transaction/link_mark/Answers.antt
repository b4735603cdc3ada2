use Rattle.transaction.proofs.MarkLaws.{link_laws}
use borrow.Author.Rules.{rules}
use Rattle.transaction.proofs.transaction.link_mark.Goals as goal

pub returns-in_err-e : goal.returns-in_err-e
returns-in_err-e c = search (rules, link_laws, c.in_err-e.was)

pub overflow_add-b : goal.overflow_add-b
overflow_add-b c = search (rules, link_laws, c.in_ok-e.was)

pub returns : goal.returns
returns c = search (rules, link_laws, c.in_ok-e.was)
