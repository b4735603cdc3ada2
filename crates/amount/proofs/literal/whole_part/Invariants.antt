use lib.ListN.{length, drop}
use Prim.Native.Nat.{◌<◌, ◌≤◌, max}
use mathlib.Core.Path.{◌≡◌}
use mathlib.Core.Bool.{false}
use Rattle.amount.specs.steps.Kept.{whole_from, whole_limit}
use Rattle.amount.proofs.literal.whole_part.Given as goal

abbrev pub invariant-loop-i : goal.invariant-loop-i
invariant-loop-i l = (whole_from 0 false (drop l.at l.s) l.at ≡ whole_from l.size l.digits (drop l.i l.s) l.i) × (l.size < whole_limit) × (l.i ≤ max l.at (length l.s))
