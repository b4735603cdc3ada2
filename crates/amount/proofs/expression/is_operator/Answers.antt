use Rattle.amount.specs.Expression.{is_plus, is_times}
use Rattle.amount.specs.steps.Answers.{operator_of}
use Rattle.amount.proofs.expression.is_operator.Goals as goal

pub returns-then-times : goal.returns-then-times
unfolding operator_of is_times
returns-then-times c = rw c.if-times.true

pub returns : goal.returns
unfolding operator_of is_plus
returns c = rw c.if-times.false
