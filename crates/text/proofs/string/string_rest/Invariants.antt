use lib.ListN.{length, drop}
use lib.Dec.{ltb}
use Prim.Native.Nat.{◌-◌, ◌≤◌}
use mathlib.Core.Bool.{false}
use mathlib.Core.Path.{◌≡◌}
use Rattle.text.specs.Strings.{str_from}
use Rattle.text.proofs.string.string_rest.Given as goal

abbrev pub invariant-loop-i : goal.invariant-loop-i
invariant-loop-i l = (str_from false (drop l.at l.s) l.at ≡ str_from (ltb l.start l.i) (drop l.i l.s) l.i) × (l.start ≤ l.i)

abbrev pub decreases-loop-i : goal.decreases-loop-i
decreases-loop-i l = length l.s - l.i
