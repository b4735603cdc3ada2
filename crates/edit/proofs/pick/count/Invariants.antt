use Prim.Native.Nat.{◌-◌, ◌*◌}
use Rattle.row.specs.Row.{width}
use Rattle.edit.proofs.PickLaws.{Counting}
use Rattle.edit.proofs.pick.count.Given as goal

abbrev pub invariant-loop-row : goal.invariant-loop-row
invariant-loop-row l = Counting l.p l.k l.t (l.k - l.row) (l.row * width) l.n
