use mathlib.Core.Path.{refl}
use Rattle.text.specs.steps.Stretch.{is_plain}
use Rattle.text.proofs.permitted.is_plain.Goals as goal

pub returns : goal.returns
unfolding is_plain
returns c = refl
