use Prim.Native.Nat.{◌-◌, ◌+◌, ◌≤◌, ◌<◌}
use mathlib.Core.Path.{◌≡◌}
use Rattle.order.specs.Order.{by}
use Rattle.order.specs.steps.Buffers.{said_in, record_at, records_from, record_room}
use Rattle.order.specs.steps.Runs.{leading, run_end}
use Rattle.order.proofs.runs.run_end.Given as goal

abbrev pub invariant-loop-j : goal.invariant-loop-j
invariant-loop-j l = (run_end l.s l.t l.i ≡ l.j + leading (by (said_in l.s)) (record_at l.t l.i) (records_from l.t l.j (record_room l.t - l.j))) × (l.j ≤ record_room l.t) × (l.i < l.j)

abbrev pub decreases-loop-j : goal.decreases-loop-j
decreases-loop-j l = l.n - l.j
