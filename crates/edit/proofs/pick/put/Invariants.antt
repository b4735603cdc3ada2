use Prim.Native.Nat.{◌-◌, ◌*◌}
use Rattle.row.specs.Row.{width}
use Rattle.edit.proofs.PickLaws.{Putting}
use Rattle.edit.proofs.pick.put.Given as goal

abbrev pub invariant-loop-row : goal.invariant-loop-row
invariant-loop-row l = Putting l.p l.k l.t l.initial.table (l.k - l.row) (l.row * width) l.n l.table
