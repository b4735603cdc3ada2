use Prim.Native.Nat.{◌-◌}
use lib.ListN.{length}
use Rattle.row.proofs.ManyLaws.{Runs}
use Rattle.content.specs.Contents.{further}
use Rattle.content.specs.steps.Parts.{furthers}
use Rattle.content.proofs.open.furthers_at.Given as goal

abbrev pub invariant-loop-i : goal.invariant-loop-i
invariant-loop-i l = Runs l.base (length l.s) (further l.s) (furthers l.s l.at) l.initial.o l.initial.table l.i l.o l.table

abbrev pub decreases-loop-i : goal.decreases-loop-i
decreases-loop-i l = length l.s - l.i
