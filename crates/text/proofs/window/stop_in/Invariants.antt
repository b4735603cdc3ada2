use lib.ListN.{get_or}
use Prim.Native.Nat.{◌+◌}
use mathlib.Core.Path.{◌≡◌}
use Rattle.text.specs.steps.Windows.{is_among, first_stop}
use Rattle.text.proofs.window.stop_in.Given as goal

abbrev pub invariant-loop-i : goal.invariant-loop-i
invariant-loop-i l = l.first ≡ first_stop (λ j. is_among l.small l.x l.y (get_or l.s (l.at + j) 0)) 32 l.i
