use Rattle.order.proofs.RunLaws.{run_laws}
use borrow.Author.Rules.{rules}
use Rattle.order.proofs.runs.run_end.Goals as goal

pub loop-j-init : goal.loop-j-init
loop-j-init c = search (rules, run_laws)

pub returns-then-is_ne-clause-end : goal.returns-then-is_ne-clause-end
returns-then-is_ne-clause-end c = search (rules, run_laws)

pub loop-j-preserved : goal.loop-j-preserved
loop-j-preserved c = search (rules, run_laws)

pub returns-clause-end : goal.returns-clause-end
returns-clause-end c = search (rules, run_laws)
