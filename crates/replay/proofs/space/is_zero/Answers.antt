use Rattle.replay.proofs.SpaceLaws.{zeros_laws}
use borrow.Author.Rules.{rules}
use Rattle.replay.proofs.space.is_zero.Goals as goal

pub returns-then-b-ne0 : goal.returns-then-b-ne0
returns-then-b-ne0 c = search (rules, zeros_laws)

pub loop-b-preserved : goal.loop-b-preserved
loop-b-preserved c = search (rules, zeros_laws)

pub returns : goal.returns
returns c = search (rules, zeros_laws)
