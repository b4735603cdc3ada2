use Rattle.amount.proofs.Forms.{negating_laws}
use borrow.Author.Rules.{rules}
use Rattle.amount.proofs.expression.negating.Goals as goal

pub returns-in_err-e : goal.returns-in_err-e
returns-in_err-e c = search (rules, negating_laws, c.in_err-e.was)

pub returns : goal.returns
returns c = search (rules, negating_laws, c.in_ok-e.was)
