use Rattle.rewrite.specs.steps.Pouring.{Going}
use Rattle.rewrite.proofs.rows.rows.Given as goal

abbrev pub invariant-loop-i : goal.invariant-loop-i
invariant-loop-i l = Going l.s l.t l.n l.initial.out l.out l.i l.at l.k l.prev l.x
