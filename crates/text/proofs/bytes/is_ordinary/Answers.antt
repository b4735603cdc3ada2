use mathlib.Core.Path.{refl}
use Rattle.text.specs.Bytes.{is_ordinary}
use Rattle.text.proofs.bytes.is_ordinary.Goals as goal

pub returns : goal.returns
unfolding is_ordinary
returns c = refl
