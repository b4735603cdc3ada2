-- What a verdict counts as.
use Rattle.std.specs.Prelude.{Option, Some}
use mathlib.Core.Path.{◌≡◌, sym, ◌∙◌}
use mathlib.Core.Bool.{Bool, true, false}
use Rattle.replay.specs.declared.compare.Alike.{Alike}
use Rattle.replay.specs.declared.tally.Step.{Step}
use Rattle.replay.specs.Verdicts.{all_alike}
use Rattle.replay.specs.Counts.{compared_step, step_of}

module _ (a : Alike) (q : Bool) (e : q ≡ all_alike a) where
  pub step_same : q ≡ true → Step.Same ≡ compared_step a
  step_same t = rw (sym e ∙ t)

  pub step_differs : q ≡ false → Step.Differs ≡ compared_step a
  step_differs f = rw (sym e ∙ f)

pub step_compared : (v : Option Alike) (a : Alike) (s : Step) → v ≡ Some a → s ≡ compared_step a → s ≡ step_of v
step_compared v a s e w = rw e w

pub ruleset step_laws = (step_same, step_differs, step_compared)
