use lib.ListN.{length}
use Rattle.amount.specs.Expression.{combined, groups, within}
use Rattle.engine.proofs.Invariant.{Kept}
use Rattle.engine.proofs.Measure.{weight}
use Rattle.engine.proofs.evaluate.Given as goal

abbrev pub invariant-loop-next : goal.invariant-loop-next
invariant-loop-next l = Kept (combined l.form) l.s (within (combined l.form) groups l.s l.at) l.frames l.depth l.next

abbrev pub decreases-loop-next : goal.decreases-loop-next
decreases-loop-next l = weight (length l.s) l.next
