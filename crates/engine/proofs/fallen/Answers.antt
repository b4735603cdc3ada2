use Rattle.engine.proofs.Answering.{fall_laws}
use borrow.Author.Rules.{rules}
use Rattle.engine.proofs.fallen.Goals as goal

pub returns-in-With : goal.returns-in-With
returns-in-With c = search (rules, fall_laws)

pub returns-in-With-sum : goal.returns-in-With-sum
returns-in-With-sum c = search (rules, fall_laws)

pub returns-in-Nothing-sum : goal.returns-in-Nothing-sum
returns-in-Nothing-sum c = search (rules, fall_laws)
