use mathlib.Core.Path.{◌≡◌}
use Rattle.text.specs.Run.{run_to}
use Rattle.text.specs.steps.Classes.{in_class}
use Rattle.text.proofs.run.run.Given as goal

abbrev pub invariant-loop-i : goal.invariant-loop-i
invariant-loop-i l = run_to (in_class l.k) l.s l.at ≡ run_to (in_class l.k) l.s l.i
