use Rattle.order.specs.Order.{texts}
use lib.ListN.{length, drop}
use Prim.Native.Nat.{◌-◌, ◌≤◌}
use mathlib.Core.Path.{◌≡◌}
use Rattle.order.proofs.compare.same_front.Given as goal

abbrev pub invariant-loop-i : goal.invariant-loop-i
invariant-loop-i l = (texts l.x l.y ≡ texts (drop l.i l.x) (drop l.i l.y)) × (l.i ≤ length l.x) × (l.i ≤ length l.y)

abbrev pub decreases-loop-i : goal.decreases-loop-i
decreases-loop-i l = length l.x - l.i
