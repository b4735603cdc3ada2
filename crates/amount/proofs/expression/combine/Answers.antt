use Rattle.amount.proofs.ValueLaws.{combined_laws}
use borrow.Author.Rules.{rules}
use Rattle.amount.proofs.expression.combine.Goals as goal

pub returns-in_err-a : goal.returns-in_err-a
returns-in_err-a c = search (rules, combined_laws, c.in_err-a.was)

pub returns-in_err-b : goal.returns-in_err-b
returns-in_err-b c = search (rules, combined_laws, c.in_ok-a.was, c.in_err-b.was)

pub returns : goal.returns
returns c = search (rules, combined_laws, c.in_ok-a.was, c.in_ok-b.was)
