use Rattle.std.proofs.Common.{◌-◌, ◌≤◌}
use Rattle.replay.proofs.replayed.Given as goal

abbrev pub invariant-loop-cases : goal.invariant-loop-cases
invariant-loop-cases g l = l.differing ≤ l.cases

abbrev pub decreases-loop-cases : goal.decreases-loop-cases
decreases-loop-cases g l = 18446744073709551615 - l.cases
