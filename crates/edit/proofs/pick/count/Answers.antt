use Rattle.edit.proofs.PickLaws.{counting_laws, counted_all}
use native.Mathlib.Omega.{arith}
use borrow.Author.Rules.{rules}
use Rattle.edit.proofs.pick.count.Goals as goal

pub loop-row-preserved : goal.loop-row-preserved
loop-row-preserved c = search (rules, counting_laws)

pub returns : goal.returns
returns c = counted_all _ _ _ _ _ _ c.loop-row.invariant (omega arith)
