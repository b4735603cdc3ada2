use mathlib.Core.Path.{sym, ◌∙◌}
use Rattle.decimal.proofs.Laws.{over_large, over_is}
use Rattle.decimal.proofs.over.Goals as goal

pub returns-then-q0-ge1000000000 : goal.returns-then-q0-ge1000000000
returns-then-q0-ge1000000000 c = sym (over_large _ _ _ _ c.requires.1.0 c.if-q0-ge1000000000.true)

pub returns : goal.returns
returns c = c.settled.ensures ∙ over_is _ _ _ _ c.requires.1.0
