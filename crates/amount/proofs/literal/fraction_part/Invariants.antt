use lib.ListN.{length, drop}
use Prim.Native.Nat.{◌+◌, ◌*◌, ◌≤◌, max}
use mathlib.Core.Path.{◌≡◌}
use mathlib.Core.Bool.{false}
use Rattle.amount.specs.steps.Kept.{fraction_from, factor, kept_limit}
use Rattle.amount.proofs.literal.fraction_part.Given as goal

abbrev pub invariant-loop-i : goal.invariant-loop-i
invariant-loop-i l = (fraction_from l.before 0 l.any false (drop l.at l.s) l.at ≡ fraction_from l.size l.places l.digits l.tail (drop l.i l.s) l.i) × ((l.size + 1) * factor l.places ≤ kept_limit) × (l.i ≤ max l.at (length l.s))
