use Rattle.amount.proofs.AmountForms.{amount_laws}
use borrow.Author.Rules.{rules}
use Rattle.amount.proofs.amounts.amount_at.Goals as goal

pub returns-in-Err-Hard-Missing-default : goal.returns-in-Err-Hard-Missing-default
returns-in-Err-Hard-Missing-default c = search (rules, amount_laws)

pub returns-in_default : goal.returns-in_default
returns-in_default c = search (rules, amount_laws)

pub returns-in_default-2 : goal.returns-in_default-2
returns-in_default-2 c = search (rules, amount_laws)

pub returns-in_default-3 : goal.returns-in_default-3
returns-in_default-3 c = search (rules, amount_laws)
