use Rattle.posting.proofs.LotWrites.{optional_cost_laws}
use borrow.Author.Rules.{rules}
use Rattle.posting.proofs.cost.optional_cost.Goals as goal

pub returns-in_default : goal.returns-in_default
returns-in_default c = search (rules, optional_cost_laws)

pub returns-in-Err-Miss : goal.returns-in-Err-Miss
returns-in-Err-Miss c = search (rules, optional_cost_laws)

pub returns-in_default-cost_at : goal.returns-in_default-cost_at
returns-in_default-cost_at c = search (rules, optional_cost_laws)

pub returns-in_default-cost_at-2 : goal.returns-in_default-cost_at-2
returns-in_default-cost_at-2 c = search (rules, optional_cost_laws)
