use Prim.Native.Nat.{◌-◌}
use Rattle.order.proofs.SumLaws.{Summing}
use Rattle.order.proofs.sum.sum.Given as goal

abbrev pub invariant-loop-i : goal.invariant-loop-i
invariant-loop-i l = Summing l.t l.w l.i

abbrev pub decreases-loop-i : goal.decreases-loop-i
decreases-loop-i l = l.n - l.i
