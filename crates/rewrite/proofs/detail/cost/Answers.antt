use Rattle.rewrite.proofs.DetailLaws.{cost_laws}
use borrow.Author.Rules.{rules}
use Rattle.rewrite.proofs.detail.cost.Goals as goal

pub returns-then-next-eq-AMOUNT : goal.returns-then-next-eq-AMOUNT
returns-then-next-eq-AMOUNT c = search (rules, cost_laws)

pub returns : goal.returns
returns c = search (rules, cost_laws)
