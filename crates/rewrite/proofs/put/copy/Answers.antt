use Rattle.rewrite.proofs.PutLaws.{copy_laws}
use borrow.Author.Rules.{rules}
use Rattle.rewrite.proofs.put.copy.Goals as goal

pub returns-then-out-at : goal.returns-then-out-at
returns-then-out-at c = search (rules, copy_laws)

pub returns-then-out-at-2 : goal.returns-then-out-at-2
returns-then-out-at-2 c = search (rules, copy_laws)

pub shape_of-out : goal.shape_of-out
shape_of-out c = search (rules, copy_laws)

pub returns : goal.returns
returns c = search (rules, copy_laws)
