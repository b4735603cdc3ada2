use Rattle.amount.proofs.AmountForms.{priced_laws}
use borrow.Author.Rules.{rules}
use Rattle.amount.proofs.amounts.priced_from.Goals as goal

pub returns-in_err-j : goal.returns-in_err-j
returns-in_err-j c = search (rules, priced_laws, c.in_err-j.was)

pub returns-in_err-f : goal.returns-in_err-f
returns-in_err-f c = search (rules, priced_laws, c.in_ok-j.was, c.in_err-f.was)

pub returns : goal.returns
returns c = search (rules, priced_laws, c.in_ok-j.was, c.in_ok-f.was)
