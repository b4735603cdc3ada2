use Rattle.decimal.proofs.Whole.{operation_laws}
use Rattle.decimal.specs.Exact.{negated}
use borrow.Author.Rules.{rules}
use Rattle.decimal.proofs.neg.Goals as goal

pub returns : goal.returns
unfolding negated
returns c = search (rules, operation_laws)
