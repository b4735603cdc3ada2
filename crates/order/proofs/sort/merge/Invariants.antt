use Prim.Native.Nat.{◌-◌}
use Rattle.order.proofs.MergeLaws.{Turn}
use Rattle.order.proofs.sort.merge.Given as goal

abbrev pub invariant-loop-k : goal.invariant-loop-k
invariant-loop-k l = Turn l.s l.t l.initial.u l.m l.u l.i l.j l.k

abbrev pub decreases-loop-k : goal.decreases-loop-k
decreases-loop-k l = l.n - l.k
