use Prim.Native.Nat.{◌≤◌}
use mathlib.Core.Path.{◌≡◌}
use Rattle.text.specs.steps.Stretch.{clean_end}
use Rattle.text.proofs.permitted.clean_to.Given as goal

abbrev pub invariant-loop-i : goal.invariant-loop-i
invariant-loop-i l = (clean_end l.s l.i ≡ clean_end l.s l.from) × (l.i ≤ l.to)
