use Rattle.order.proofs.RunLaws.{pass_laws}
use borrow.Author.Rules.{rules}
use Rattle.order.proofs.runs.count_runs.Goals as goal

pub loop-i-init : goal.loop-i-init
loop-i-init c = search (rules, pass_laws)

pub returns-then-is_err : goal.returns-then-is_err
returns-then-is_err c = search (rules, pass_laws)

pub loop-i-preserved : goal.loop-i-preserved
loop-i-preserved c = search (rules, pass_laws)

pub returns : goal.returns
returns c = search (rules, pass_laws)
