use Prim.Native.Nat.{◌-◌, ◌≤◌}
use lib.ListN.{length}
use Rattle.row.specs.steps.Sweep.{LineOf}
use Rattle.row.proofs.lines.line_at.Given as goal

abbrev pub invariant-loop-l : goal.invariant-loop-l
invariant-loop-l l = LineOf l.s l.l × (l.l.from ≤ l.start)

abbrev pub decreases-loop-l : goal.decreases-loop-l
decreases-loop-l l = length l.s - l.l.from
