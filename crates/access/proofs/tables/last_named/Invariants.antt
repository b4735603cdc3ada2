use Prim.Native.Nat.{◌≤◌}
use mathlib.Core.Path.{◌≡◌}
use Rattle.access.specs.Tables.{last_named}
use Rattle.access.proofs.tables.last_named.Given as goal

abbrev pub invariant-loop-j : goal.invariant-loop-j
invariant-loop-j l = (last_named l.ledger l.t l.tag l.n ≡ last_named l.ledger l.t l.tag l.j) × (l.j ≤ l.n)

abbrev pub decreases-loop-j : goal.decreases-loop-j
decreases-loop-j l = l.j
