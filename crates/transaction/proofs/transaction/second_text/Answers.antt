use Rattle.transaction.proofs.HeadLaws.{second_laws}
use borrow.Author.Rules.{rules}
use Rattle.transaction.proofs.transaction.second_text.Goals as goal

pub overflow_add-b : goal.overflow_add-b
overflow_add-b c = search (rules, second_laws, c.in-Some.ensures)

pub overflow_sub-f : goal.overflow_sub-f
overflow_sub-f c = search (rules, second_laws)

pub emit_span-p-requires : goal.emit_span-p-requires
emit_span-p-requires c = search (rules, second_laws)

pub returns-in-Some : goal.returns-in-Some
returns-in-Some c = search (rules, second_laws, c.in-Some.ensures)

pub returns-in-None : goal.returns-in-None
returns-in-None c = search (rules, second_laws, c.in-None.ensures)
