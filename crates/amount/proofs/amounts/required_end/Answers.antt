use Rattle.amount.proofs.AmountForms.{end_laws}
use borrow.Author.Rules.{rules}
use Rattle.amount.proofs.amounts.required_end.Goals as goal

pub returns-in_err-c : goal.returns-in_err-c
returns-in_err-c c = search (rules, end_laws, c.in_err-c.was)

pub returns-in_err-d : goal.returns-in_err-d
returns-in_err-d c = search (rules, end_laws, c.in_ok-c.was, c.in_err-d.was)

pub returns : goal.returns
returns c = search (rules, end_laws, c.in_ok-c.was, c.in_ok-d.was)
