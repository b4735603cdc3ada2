use Rattle.rewrite.proofs.DetailLaws.{detail_laws}
use borrow.Author.Rules.{rules}
use Rattle.rewrite.proofs.detail.amount.Goals as goal

pub returns-then-prev-eq-COST : goal.returns-then-prev-eq-COST
returns-then-prev-eq-COST c = search (rules, detail_laws)

pub returns-then-next-eq-TOLERANCE : goal.returns-then-next-eq-TOLERANCE
returns-then-next-eq-TOLERANCE c = search (rules, detail_laws)

pub returns : goal.returns
returns c = search (rules, detail_laws)
