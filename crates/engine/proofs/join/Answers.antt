use Rattle.engine.proofs.Answering.{join_laws}
use borrow.Author.Rules.{rules}
use Rattle.engine.proofs.join.Goals as goal

pub returns-in-Nothing : goal.returns-in-Nothing
returns-in-Nothing c = search (rules, join_laws)

pub returns-in-With : goal.returns-in-With
returns-in-With c = search (rules, join_laws)
