use Rattle.edit.proofs.PlanLaws.{edit_laws}
use borrow.Author.Rules.{rules}
use Rattle.edit.proofs.reread.edit.Goals as goal

pub returns-in_err-allowed-clause-answer : goal.returns-in_err-allowed-clause-answer
returns-in_err-allowed-clause-answer c = search (rules, edit_laws, c.in_err-allowed.was)

pub returns-in_err-allowed-clause-rows : goal.returns-in_err-allowed-clause-rows
returns-in_err-allowed-clause-rows c = search (rules, edit_laws, c.in_err-allowed.was)

pub plan_of-p-requires : goal.plan_of-p-requires
plan_of-p-requires c = search (rules, edit_laws, c.in_ok-allowed.was)

pub count_all-c-requires : goal.count_all-c-requires
count_all-c-requires c = search (rules, edit_laws, c.in_ok-allowed.was)

pub overflow_add-n : goal.overflow_add-n
overflow_add-n c = search (rules, edit_laws, c.in_ok-allowed.was)

pub overflow_add-n-2 : goal.overflow_add-n-2
overflow_add-n-2 c = search (rules, edit_laws, c.in_ok-allowed.was)

pub returns-then-table-n-clause-answer : goal.returns-then-table-n-clause-answer
returns-then-table-n-clause-answer c = search (rules, edit_laws, c.in_ok-allowed.was)

pub returns-then-table-n-clause-rows : goal.returns-then-table-n-clause-rows
returns-then-table-n-clause-rows c = search (rules, edit_laws, c.in_ok-allowed.was)

pub put_all-requires : goal.put_all-requires
put_all-requires c = search (rules, edit_laws, c.in_ok-allowed.was)

pub returns-clause-answer : goal.returns-clause-answer
returns-clause-answer c = search (rules, edit_laws, c.in_ok-allowed.was)

pub returns-clause-rows : goal.returns-clause-rows
returns-clause-rows c = search (rules, edit_laws, c.in_ok-allowed.was)
