use Prim.Native.Nat.{◌-◌}
use lib.ListN.{length}
use Rattle.row.proofs.ManyLaws.{Runs}
use Rattle.transaction.specs.Transaction.{mark, marks}
use Rattle.transaction.proofs.transaction.marks_at.Given as goal

abbrev pub invariant-loop-i : goal.invariant-loop-i
invariant-loop-i l = Runs l.base (length l.s) (mark l.s) (marks l.s l.at) l.initial.o l.initial.table l.i l.o l.table

abbrev pub decreases-loop-i : goal.decreases-loop-i
decreases-loop-i l = length l.s - l.i
