use mathlib.Core.Path.{refl}
use Rattle.text.specs.Bytes.{in_comment}
use Rattle.text.proofs.bytes.in_comment.Goals as goal

pub returns : goal.returns
unfolding in_comment
returns c = refl
