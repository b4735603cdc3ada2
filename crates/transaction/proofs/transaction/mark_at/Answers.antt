use Rattle.transaction.proofs.MarkLaws.{mark_laws}
use borrow.Author.Rules.{rules}
use Rattle.transaction.proofs.transaction.mark_at.Goals as goal

pub overflow_add-b : goal.overflow_add-b
overflow_add-b c = search (rules, mark_laws, c.in-Some.ensures)

pub returns-in-Some : goal.returns-in-Some
returns-in-Some c = search (rules, mark_laws, c.in-Some.ensures)

pub returns-in-None : goal.returns-in-None
returns-in-None c = search (rules, mark_laws, c.in-None.ensures)
