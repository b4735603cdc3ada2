-- What a verdict counts as, and what that adds to the counts.
use Rattle.std.specs.Prelude.{ℕ, Bool, true, false, cond, None, Option, Some}
use Rattle.replay.specs.declared.compare.Alike.{Alike}
use Rattle.replay.specs.declared.tally.Step.{Step}
use Rattle.replay.specs.Verdicts.{all_alike}

abbrev pub compared_step : Alike → Step
compared_step a = cond (all_alike a) Step.Same Step.Differs

-- a call that no number names differs
abbrev pub step_of : Option Alike → Step
step_of (Some a) = compared_step a
step_of None = Step.Differs

abbrev pub ends : Step → Bool
ends Step.End = true
ends Step.Broken = false
ends Step.Same = false
ends Step.Differs = false

abbrev pub breaks : Step → Bool
breaks Step.End = false
breaks Step.Broken = true
breaks Step.Same = false
breaks Step.Differs = false

abbrev pub differing : Step → ℕ
differing Step.End = 0
differing Step.Broken = 1
differing Step.Same = 0
differing Step.Differs = 1
