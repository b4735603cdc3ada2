use Rattle.posting.proofs.BodyWrites.{body_step_laws}
use borrow.Author.Rules.{rules}
use Rattle.posting.proofs.body.body_step.Goals as goal

pub returns-in_err-e-in-Err-Miss : goal.returns-in_err-e-in-Err-Miss
returns-in_err-e-in-Err-Miss c = search (rules, body_step_laws, c.in_err-e-in-Err-Miss.was)

pub returns-in_ok-e-in-Err-Miss : goal.returns-in_ok-e-in-Err-Miss
returns-in_ok-e-in-Err-Miss c = search (rules, body_step_laws, c.in_ok-e-in-Err-Miss.was)

pub returns-in_default : goal.returns-in_default
returns-in_default c = search (rules, body_step_laws)

pub returns-in_default-2 : goal.returns-in_default-2
returns-in_default-2 c = search (rules, body_step_laws)
