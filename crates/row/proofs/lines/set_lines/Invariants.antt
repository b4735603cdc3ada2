use Prim.Native.Nat.{◌*◌, ◌-◌}
use lib.ListN.{length, take, drop}
use mathlib.Core.Path.{◌≡◌}
use mathlib.Core.List.{◌++◌}
use Rattle.row.specs.steps.Sweep.{LineOf, lines_set}
use Rattle.row.proofs.lines.set_lines.Given as goal

abbrev pub invariant-loop-k : goal.invariant-loop-k
invariant-loop-k l = (take (l.k * 32) l.table ++ lines_set l.s (l.n - l.k) (drop (l.k * 32) l.table) ≡ lines_set l.s l.n l.initial.table) × LineOf l.s l.l × (length l.table ≡ length l.initial.table)
