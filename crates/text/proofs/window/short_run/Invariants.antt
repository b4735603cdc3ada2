use mathlib.Core.Path.{◌≡◌}
use Rattle.text.specs.Run.{run_to}
use Rattle.text.specs.steps.Windows.{is_among}
use Rattle.text.proofs.window.short_run.Given as goal

abbrev pub invariant-loop-i : goal.invariant-loop-i
invariant-loop-i l = run_to (is_among l.small l.x l.y) l.s l.at ≡ run_to (is_among l.small l.x l.y) l.s l.i
