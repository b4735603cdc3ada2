use Rattle.decimal.proofs.Whole.{operation_laws}
use Rattle.decimal.specs.Exact.{product}
use borrow.Author.Rules.{rules}
use Rattle.decimal.proofs.mul.Goals as goal

pub returns-then-too_large : goal.returns-then-too_large
unfolding product
returns-then-too_large c = search (rules, operation_laws)

pub returns : goal.returns
unfolding product
returns c = search (rules, operation_laws)
