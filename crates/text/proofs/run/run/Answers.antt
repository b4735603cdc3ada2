use Rattle.text.proofs.RunLaws.{run_laws}
use borrow.Author.Rules.{rules}
use Rattle.text.proofs.run.run.Goals as goal

pub returns-then-not-in_class-clause-value : goal.returns-then-not-in_class-clause-value
returns-then-not-in_class-clause-value c = search (rules, run_laws)

pub loop-i-preserved : goal.loop-i-preserved
loop-i-preserved c = search (rules, run_laws)

pub returns-clause-value : goal.returns-clause-value
returns-clause-value c = search (rules, run_laws)
