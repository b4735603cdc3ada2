use Rattle.amount.proofs.LoneLiteral.{lone_laws}
use Rattle.amount.specs.Expression.{expression_in, expression}
use borrow.Author.Rules.{rules}
use Rattle.amount.proofs.expression.expression_at.Goals as goal

pub returns-then-not-operator_follows : goal.returns-then-not-operator_follows
unfolding expression expression_in
returns-then-not-operator_follows c = search (rules, lone_laws)

pub returns : goal.returns
unfolding expression expression_in
returns c = search (rules, lone_laws)
