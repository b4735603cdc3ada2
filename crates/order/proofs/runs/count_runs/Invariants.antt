use Prim.Native.Nat.{◌-◌}
use Rattle.row.specs.Row.{fields_in}
use Rattle.order.specs.steps.Buffers.{said_in, records_of}
use Rattle.order.specs.Groups.{listed, counted}
use Rattle.order.proofs.RunLaws.{Pass}
use Rattle.order.proofs.runs.count_runs.Given as goal

abbrev pub invariant-loop-i : goal.invariant-loop-i
invariant-loop-i l = Pass l.s l.t (counted (λ b. (fields_in b).start) 0 (listed (said_in l.s) (records_of l.t))) l.i l.k

abbrev pub decreases-loop-i : goal.decreases-loop-i
decreases-loop-i l = l.n - l.i
