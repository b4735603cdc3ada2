use Rattle.decimal.proofs.Whole.{operation_laws}
use Rattle.decimal.specs.Exact.{difference}
use borrow.Author.Rules.{rules}
use Rattle.decimal.proofs.sub.Goals as goal

pub returns-then-too_large : goal.returns-then-too_large
unfolding difference
returns-then-too_large c = search (rules, operation_laws)

pub returns : goal.returns
unfolding difference
returns c = search (rules, operation_laws)
