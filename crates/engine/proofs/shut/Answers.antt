use Rattle.engine.proofs.Answering.{shut_laws}
use borrow.Author.Rules.{rules}
use Rattle.engine.proofs.shut.Goals as goal

pub overflow_add-i : goal.overflow_add-i
overflow_add-i c = search (rules, shut_laws)

pub returns-then-peek-eq41 : goal.returns-then-peek-eq41
returns-then-peek-eq41 c = search (rules, shut_laws)

pub returns-else-peek-eq41 : goal.returns-else-peek-eq41
returns-else-peek-eq41 c = search (rules, shut_laws)
