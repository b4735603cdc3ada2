use lib.ListN.{get_or}
use Prim.Native.Nat.{◌+◌}
use mathlib.Core.Path.{◌≡◌}
use Rattle.text.specs.steps.Windows.{goes_on, first_stop}
use Rattle.text.proofs.account.stop_in.Given as goal

abbrev pub invariant-loop-i : goal.invariant-loop-i
invariant-loop-i l = l.first ≡ first_stop (λ j. goes_on (get_or l.s (l.at + j) 0) (get_or l.s (l.at + j + 1) 0)) 16 l.i
