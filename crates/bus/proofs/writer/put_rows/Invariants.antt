use Prim.Native.Nat.{◌-◌, ◌*◌}
use Rattle.row.specs.Row.{width}
use Rattle.bus.proofs.RowsLaws.{Putting}
use Rattle.bus.proofs.writer.put_rows.Given as goal

abbrev pub invariant-loop-k : goal.invariant-loop-k
invariant-loop-k l = Putting l.ledger l.t l.initial.buffer l.n l.buffer (l.n - l.k) (l.k * width) l.at
