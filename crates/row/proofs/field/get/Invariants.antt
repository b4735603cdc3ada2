use mathlib.Core.Path.{◌≡◌}
use Prim.Native.Nat.{◌+◌, ◌-◌, ◌≤◌}
use lib.ListN.{take, drop}
use Rattle.row.specs.Field.{un}
use Rattle.row.proofs.field.get.Given as goal

abbrev pub invariant-loop-i : goal.invariant-loop-i
invariant-loop-i l = (l.x ≡ un (take (l.width - l.i) (drop (l.at + l.i) l.t))) × (l.i ≤ l.width)
