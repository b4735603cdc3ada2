use Rattle.posting.proofs.MetaWrites.{step_laws}
use borrow.Author.Rules.{rules}
use Rattle.posting.proofs.metadata.meta_step.Goals as goal

pub returns-then-starts_other : goal.returns-then-starts_other
returns-then-starts_other c = search (rules, step_laws)

pub returns-in_err-e-in-Err-Miss : goal.returns-in_err-e-in-Err-Miss
returns-in_err-e-in-Err-Miss c = search (rules, step_laws, c.in_err-e-in-Err-Miss.was)

pub returns-in-Ok : goal.returns-in-Ok
returns-in-Ok c = search (rules, step_laws)

pub returns-in_ok-e-in-Err-Miss : goal.returns-in_ok-e-in-Err-Miss
returns-in_ok-e-in-Err-Miss c = search (rules, step_laws, c.in_ok-e-in-Err-Miss.was)

pub returns-in-Err : goal.returns-in-Err
returns-in-Err c = search (rules, step_laws)
