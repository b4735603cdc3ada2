use mathlib.Core.Path.{refl}
use Rattle.text.specs.Bytes.{is_escaped}
use Rattle.text.proofs.bytes.is_escaped.Goals as goal

pub returns : goal.returns
unfolding is_escaped
returns c = refl
