use mathlib.Core.Path.{refl}
use Rattle.totals.specs.Totals.{is_month}
use Rattle.totals.proofs.totals.is_month.Goals as goal

pub returns : goal.returns
unfolding is_month
returns c = refl
