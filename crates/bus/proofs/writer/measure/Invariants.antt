use Prim.Native.Nat.{◌-◌, ◌*◌, ◌≤◌}
use mathlib.Core.Path.{◌≡◌}
use lib.ListN.{drop}
use Rattle.decimal.specs.Exact.{largest}
use Rattle.bus.specs.steps.Measuring.{measured_from}
use Rattle.row.specs.Row.{width}
use Rattle.bus.proofs.writer.measure.Given as goal

abbrev pub invariant-loop-k : goal.invariant-loop-k
invariant-loop-k l = (measured_from l.ledger l.n l.t 0 ≡ measured_from l.ledger (l.n - l.k) (drop (l.k * width) l.t) l.total) × (l.total ≤ largest)
