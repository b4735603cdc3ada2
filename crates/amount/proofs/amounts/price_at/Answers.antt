use Rattle.amount.proofs.AmountForms.{price_laws}
use borrow.Author.Rules.{rules}
use Rattle.amount.proofs.amounts.price_at.Goals as goal

pub returns-in_err-e : goal.returns-in_err-e
returns-in_err-e c = search (rules, price_laws, c.in_err-e.was)

pub returns : goal.returns
returns c = search (rules, price_laws, c.in_ok-e.was)
