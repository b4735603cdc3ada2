use mathlib.Core.Path.{sym, ◌∙◌}
use Rattle.decimal.proofs.Laws.{times_large, times_is}
use Rattle.decimal.proofs.times.Goals as goal

pub returns-then-top-ge1000000000 : goal.returns-then-top-ge1000000000
returns-then-top-ge1000000000 c = sym (times_large _ _ _ _ c.if-top-ge1000000000.true)

pub returns : goal.returns
returns c = c.settled.ensures ∙ times_is _ _ _ _
