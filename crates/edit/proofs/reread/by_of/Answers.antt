use Rattle.edit.proofs.PlanLaws.{by_laws}
use borrow.Author.Rules.{rules}
use borrow.Author.Rules.{rules}
use Rattle.edit.proofs.reread.by_of.Goals as goal

pub returns : goal.returns
returns c = search (rules, by_laws)
