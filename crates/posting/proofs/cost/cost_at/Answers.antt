use Rattle.posting.proofs.LotWrites.{cost_laws}
use borrow.Author.Rules.{rules}
use Rattle.posting.proofs.cost.cost_at.Goals as goal

pub returns-in_err-e : goal.returns-in_err-e
returns-in_err-e c = search (rules, cost_laws, c.in_err-e.was)

pub returns-in_err-f : goal.returns-in_err-f
returns-in_err-f c = search (rules, cost_laws, c.in_ok-e.was, c.in_err-f.was)

pub returns-then-eq : goal.returns-then-eq
returns-then-eq c = search (rules, cost_laws, c.in_ok-e.was, c.in_ok-f.was)

pub returns : goal.returns
returns c = search (rules, cost_laws)
