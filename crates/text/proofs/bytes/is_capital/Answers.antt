use mathlib.Core.Path.{refl}
use Rattle.text.specs.Bytes.{is_capital}
use Rattle.text.proofs.bytes.is_capital.Goals as goal

pub returns : goal.returns
unfolding is_capital
returns c = refl
