use Rattle.amount.proofs.ValueLaws.{negated_laws}
use Rattle.amount.specs.Expression.{negated_value}
use borrow.Author.Rules.{rules}
use Rattle.amount.proofs.expression.negated.Goals as goal

pub returns-in_err-v : goal.returns-in_err-v
unfolding negated_value
returns-in_err-v c = search (rules, negated_laws, c.in_err-v.was)

pub returns : goal.returns
returns c = search (rules, negated_laws, c.in_ok-v.was)
