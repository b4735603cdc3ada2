use Prim.Native.Nat.{◌-◌}
use Rattle.edit.proofs.ShiftLaws.{MovedTo}
use Rattle.edit.proofs.moves.move_rows.Given as goal

abbrev pub invariant-loop-i : goal.invariant-loop-i
invariant-loop-i l = MovedTo l.b l.n l.initial.t l.i l.t
