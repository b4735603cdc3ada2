use Rattle.access.proofs.SingleLaws.{single_laws}
use Rattle.access.specs.steps.Telling.{told_of}
use borrow.Author.Rules.{rules}
use Rattle.access.proofs.single.told.Goals as goal

pub returns-in-Ok : goal.returns-in-Ok
returns-in-Ok c = search (rules, single_laws)

pub returns-in-Err-Miss : goal.returns-in-Err-Miss
returns-in-Err-Miss c = search (rules, single_laws)

pub returns-in-Err-Hard : goal.returns-in-Err-Hard
unfolding told_of
returns-in-Err-Hard c = search (rules, single_laws)
