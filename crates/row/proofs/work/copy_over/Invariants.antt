use mathlib.Core.Path.{◌≡◌}
use lib.ListN.{length, drop}
use lib.Seq.{sets}
use Rattle.row.proofs.work.copy_over.Given as goal

abbrev pub invariant-loop-i : goal.invariant-loop-i
invariant-loop-i l = (sets l.initial.to 0 l.from ≡ sets l.to l.i (drop l.i l.from)) × (length l.to ≡ length l.initial.to)
