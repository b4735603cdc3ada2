use Rattle.amount.proofs.ValueLaws.{operated_laws}
use borrow.Author.Rules.{rules}
use Rattle.amount.proofs.expression.operated_by.Goals as goal

pub returns-then-op-eq43 : goal.returns-then-op-eq43
returns-then-op-eq43 c = search (rules, operated_laws)

pub returns-then-op-eq45 : goal.returns-then-op-eq45
returns-then-op-eq45 c = search (rules, operated_laws)

pub returns-then-op-eq42 : goal.returns-then-op-eq42
returns-then-op-eq42 c = search (rules, operated_laws)

pub returns : goal.returns
returns c = search (rules, operated_laws)
