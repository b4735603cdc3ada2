use mathlib.Core.Path.{refl}
use Rattle.walk.specs.Postings.{dated}
use Rattle.walk.proofs.step.is_dated.Goals as goal

pub returns : goal.returns
unfolding dated
returns c = refl
