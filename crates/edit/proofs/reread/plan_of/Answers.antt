use Rattle.edit.proofs.PlanLaws.{plan_all}
use borrow.Author.Rules.{rules}
use borrow.Author.Rules.{rules}
use Rattle.edit.proofs.reread.plan_of.Goals as goal

pub returns : goal.returns
returns c = search (rules, plan_all)
