use Rattle.walk.proofs.LineTurns.{line_laws}
use borrow.Author.Rules.{rules}
use Rattle.walk.proofs.step.line_turn.Goals as goal

pub returns-in_default : goal.returns-in_default
returns-in_default c = search (rules, line_laws)

pub returns-then-e-i : goal.returns-then-e-i
returns-then-e-i c = search (rules, line_laws, c.in-Ok.ensures)

pub overflow_add-next : goal.overflow_add-next
overflow_add-next c = search (rules, line_laws, c.in-Ok.ensures)

pub returns-then-n-eq0 : goal.returns-then-n-eq0
returns-then-n-eq0 c = search (rules, line_laws, c.in-Ok.ensures)

pub returns : goal.returns
returns c = search (rules, line_laws, c.in-Ok.ensures)
