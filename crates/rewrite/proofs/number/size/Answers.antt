use borrow.Author.Rules.{rules}
use Rattle.rewrite.proofs.NumberLaws.{value_laws}
use Rattle.rewrite.proofs.number.size.Goals as goal

pub whole-next-requires : goal.whole-next-requires
whole-next-requires c = search (rules, value_laws)

pub fraction-requires : goal.fraction-requires
fraction-requires c = search (rules, value_laws)

pub shape_of-out : goal.shape_of-out
shape_of-out c = search (rules, value_laws)

pub returns : goal.returns
returns c = search (rules, value_laws)
