use Rattle.amount.proofs.LoneLiteral.{lone_laws}
use borrow.Author.Rules.{rules}
use Rattle.amount.proofs.expression.operator_follows.Goals as goal

pub returns : goal.returns
returns c = search (rules, lone_laws)
