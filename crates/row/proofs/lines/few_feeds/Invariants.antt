use Rattle.row.specs.Row.{feeds}
use lib.ListN.{take}
use mathlib.Core.Path.{◌≡◌}
use Rattle.row.proofs.lines.few_feeds.Given as goal

abbrev pub invariant-loop-b : goal.invariant-loop-b
invariant-loop-b l = l.n ≡ feeds (take l.b-index l.s)
