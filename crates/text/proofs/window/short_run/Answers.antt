use Rattle.text.proofs.RunLaws.{run_laws}
use borrow.Author.Rules.{rules}
use Rattle.text.proofs.window.short_run.Goals as goal

pub returns-then-not-is_among : goal.returns-then-not-is_among
returns-then-not-is_among c = search (rules, run_laws)

pub loop-i-preserved : goal.loop-i-preserved
loop-i-preserved c = search (rules, run_laws)

pub returns : goal.returns
returns c = search (rules, run_laws)
