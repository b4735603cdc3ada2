use mathlib.Core.Path.{refl}
use Rattle.text.specs.Bytes.{in_line}
use Rattle.text.proofs.bytes.in_line.Goals as goal

pub returns : goal.returns
unfolding in_line
returns c = refl
