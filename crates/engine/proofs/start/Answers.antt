use Rattle.engine.proofs.Answering.{look_laws}
use borrow.Author.Rules.{rules}
use Rattle.engine.proofs.start.Goals as goal

pub returns-in-Ok : goal.returns-in-Ok
returns-in-Ok c = search (rules, look_laws)

pub returns-in-Err : goal.returns-in-Err
returns-in-Err c = search (rules, look_laws)
