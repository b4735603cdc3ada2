use Rattle.walk.proofs.EntryTurns.{head_end_laws}
use borrow.Author.Rules.{rules}
use Rattle.walk.proofs.step.body_start.Goals as goal

pub returns-in-Ok : goal.returns-in-Ok
returns-in-Ok c = search (rules, head_end_laws, c.in-Ok.ensures)

pub returns-in-Err : goal.returns-in-Err
returns-in-Err c = search (rules, head_end_laws, c.in-Err.ensures)
