use Rattle.text.proofs.WindowLaws.{window_laws}
use borrow.Author.Rules.{rules}
use Rattle.text.proofs.window.run_of.Goals as goal

pub returns-then-n-lt-NONE : goal.returns-then-n-lt-NONE
returns-then-n-lt-NONE c = search (rules, window_laws)

pub loop-i-preserved : goal.loop-i-preserved
loop-i-preserved c = search (rules, window_laws)
