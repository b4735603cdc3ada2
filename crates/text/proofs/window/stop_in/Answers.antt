use Rattle.text.proofs.WindowLaws.{stop_none, stop_next}
use borrow.Author.Rules.{rules}
use Rattle.text.proofs.window.stop_in.Goals as goal

pub loop-i-init : goal.loop-i-init
loop-i-init c = search (rules, stop_none)

pub loop-i-preserved : goal.loop-i-preserved
loop-i-preserved c = search (rules, stop_next, rw c.from.ensures at c.is_among-on.ensures)
