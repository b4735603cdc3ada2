use Rattle.ledger.proofs.StrictScan.{judge_laws}
use borrow.Author.Rules.{rules}
use Rattle.ledger.proofs.scan.entries.Goals as goal

pub loop-at-init : goal.loop-at-init
loop-at-init c = search (rules, judge_laws)

pub overflow_add-place-in-Err : goal.overflow_add-place-in-Err
overflow_add-place-in-Err c = search (rules, judge_laws, c.in-Err.ensures)

pub returns-in-Err-clause-answer : goal.returns-in-Err-clause-answer
returns-in-Err-clause-answer c = search (rules, judge_laws, c.in-Err.ensures)

pub returns-in-Err-clause-rows : goal.returns-in-Err-clause-rows
returns-in-Err-clause-rows c = search (rules, judge_laws)

pub noted-held-requires : goal.noted-held-requires
noted-held-requires c = search (rules, judge_laws, c.in-Ok.ensures)

pub overflow_add-at : goal.overflow_add-at
overflow_add-at c = search (rules, judge_laws)

pub overflow_add-n : goal.overflow_add-n
overflow_add-n c = search (rules, judge_laws)

pub loop-at-smaller : goal.loop-at-smaller
loop-at-smaller c = search (rules, judge_laws)

pub loop-at-preserved : goal.loop-at-preserved
loop-at-preserved c = search (rules, judge_laws)

pub returns-clause-answer : goal.returns-clause-answer
returns-clause-answer c = search (rules, judge_laws)

pub returns-clause-rows : goal.returns-clause-rows
returns-clause-rows c = search (rules, judge_laws)
