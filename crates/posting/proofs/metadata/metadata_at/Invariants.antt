use Prim.Native.Nat.{◌-◌}
use lib.ListN.{length}
use Rattle.posting.specs.Metadata.{meta_step, metadata}
use Rattle.row.proofs.ManyLaws.{Runs}
use Rattle.posting.proofs.metadata.metadata_at.Given as goal

abbrev pub invariant-loop-i : goal.invariant-loop-i
invariant-loop-i l = Runs l.base (length l.s) (meta_step l.s) (metadata l.s l.at) l.initial.o l.initial.table l.i l.o l.table

abbrev pub decreases-loop-i : goal.decreases-loop-i
decreases-loop-i l = length l.s - l.i
