use Rattle.recovery.proofs.BlocksLaws.{Cut}
use Prim.Native.Nat.{◌-◌}
use mathlib.Core.Path.{◌≡◌}
use lib.ListN.{length}
use Rattle.recovery.proofs.recover.blocks.Given as goal

abbrev pub invariant-loop-at : goal.invariant-loop-at
invariant-loop-at l = Cut l.profile l.s l.initial.table l.at l.n l.table × (length l.table ≡ length l.initial.table)

abbrev pub decreases-loop-at : goal.decreases-loop-at
decreases-loop-at l = length l.s - l.at
