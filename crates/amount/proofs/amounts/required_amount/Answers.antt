use Rattle.amount.proofs.AmountForms.{required_laws}
use borrow.Author.Rules.{rules}
use Rattle.amount.proofs.amounts.required_amount.Goals as goal

pub returns-in_err-e : goal.returns-in_err-e
returns-in_err-e c = search (rules, required_laws, c.in_err-e.was)

pub returns : goal.returns
returns c = search (rules, required_laws, c.in_ok-e.was)
