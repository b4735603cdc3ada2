use Prim.Native.Nat.{◌+◌, ◌-◌, ◌≤◌}
use mathlib.Core.Path.{◌≡◌}
use lib.ListN.{length, drop}
use Rattle.access.specs.steps.Measuring.{measured_of}
use Rattle.access.proofs.ContentLaws.{left}
use Rattle.access.proofs.content.measure.Given as goal

abbrev pub invariant-loop-i : goal.invariant-loop-i
invariant-loop-i l = (measured_of l.content ≡ left l.ordinary (drop l.i l.content) (l.i + 1) (length l.content + 2) l.count) × (l.i ≤ length l.content) × (l.count ≤ l.i)

abbrev pub decreases-loop-i : goal.decreases-loop-i
decreases-loop-i l = length l.content - l.i
