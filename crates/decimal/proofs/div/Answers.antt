use Rattle.decimal.proofs.Whole.{operation_laws}
use Rattle.decimal.specs.Exact.{quotient}
use borrow.Author.Rules.{rules}
use Rattle.decimal.proofs.div.Goals as goal

pub returns-then-too_large : goal.returns-then-too_large
unfolding quotient
returns-then-too_large c = search (rules, operation_laws)

pub returns-then-b-eq0 : goal.returns-then-b-eq0
unfolding quotient
returns-then-b-eq0 c = search (rules, operation_laws)

pub returns : goal.returns
unfolding quotient
returns c = search (rules, operation_laws)
