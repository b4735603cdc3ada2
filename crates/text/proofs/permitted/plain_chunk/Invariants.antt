use mathlib.Core.Path.{◌≡◌}
use mathlib.Core.Bool.{◌&&◌}
use lib.ListN.{take, drop}
use Rattle.text.specs.steps.Stretch.{all_plain}
use Rattle.text.proofs.permitted.plain_chunk.Given as goal

abbrev pub invariant-loop-b : goal.invariant-loop-b
invariant-loop-b l = (l.all && all_plain (drop l.b-index l.b-items)) ≡ all_plain (take 64 (drop l.at l.s))
