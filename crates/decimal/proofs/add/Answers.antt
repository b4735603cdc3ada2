use Rattle.decimal.proofs.Whole.{operation_laws}
use Rattle.decimal.specs.Exact.{sum}
use borrow.Author.Rules.{rules}
use Rattle.decimal.proofs.add.Goals as goal

pub returns-then-too_large : goal.returns-then-too_large
unfolding sum
returns-then-too_large c = search (rules, operation_laws)

pub returns : goal.returns
unfolding sum
returns c = search (rules, operation_laws)
