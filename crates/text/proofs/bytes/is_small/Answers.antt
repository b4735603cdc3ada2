use mathlib.Core.Path.{refl}
use Rattle.text.specs.Bytes.{is_small}
use Rattle.text.proofs.bytes.is_small.Goals as goal

pub returns : goal.returns
unfolding is_small
returns c = refl
