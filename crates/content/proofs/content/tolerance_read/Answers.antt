use Rattle.content.proofs.BalanceLaws.{tolerance_laws}
use borrow.Author.Rules.{rules}
use Rattle.content.proofs.content.tolerance_read.Goals as goal

pub returns-in-Ok : goal.returns-in-Ok
returns-in-Ok c = search (rules, tolerance_laws, c.in-Ok.ensures)

pub returns-in-Err-Miss : goal.returns-in-Err-Miss
returns-in-Err-Miss c = search (rules, tolerance_laws, c.in-Err-Miss.ensures)

pub returns-in-Err : goal.returns-in-Err
returns-in-Err c = search (rules, tolerance_laws, c.in-Err.ensures)
