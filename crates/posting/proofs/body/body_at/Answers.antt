use Rattle.posting.proofs.BodyWrites.{body_halt, body_laws}
use borrow.Author.Rules.{rules}
use Rattle.posting.proofs.body.body_at.Goals as goal

pub returns-in-Err-Miss : goal.returns-in-Err-Miss
returns-in-Err-Miss c = search (rules, body_laws, c.in-Err-Miss.ensures)

pub returns-in-Err : goal.returns-in-Err
returns-in-Err c = let halt = body_halt _ _ _ _ _ _ _ _ _ _ c.loop.invariant _ _ c.body_step.ensures c.loop-test.true in search (rules, halt)

pub loop-preserved : goal.loop-preserved
loop-preserved c = search (rules, body_laws)

pub returns : goal.returns
returns c = search (rules, body_laws)
