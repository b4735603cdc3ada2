use Rattle.totals.proofs.ListLaws.{list_laws}
use borrow.Author.Rules.{rules}
use Rattle.totals.proofs.totals.list.Goals as goal

pub returns-in_err-k-clause-answer : goal.returns-in_err-k-clause-answer
returns-in_err-k-clause-answer c = search (rules, list_laws, c.in_err-k.was)

pub returns-in_err-k-clause-bytes : goal.returns-in_err-k-clause-bytes
returns-in_err-k-clause-bytes c = search (rules, list_laws)

pub overflow_mul-result : goal.overflow_mul-result
overflow_mul-result c = search (rules, list_laws, c.in_ok-k.was)

pub returns-then-items-k-clause-answer : goal.returns-then-items-k-clause-answer
returns-then-items-k-clause-answer c = search (rules, list_laws, c.in_ok-k.was)

pub returns-then-items-k-clause-bytes : goal.returns-then-items-k-clause-bytes
returns-then-items-k-clause-bytes c = search (rules, list_laws, c.in_ok-k.was)

pub returns-clause-answer : goal.returns-clause-answer
returns-clause-answer c = search (rules, list_laws, c.in_ok-k.was)

pub returns-clause-bytes : goal.returns-clause-bytes
returns-clause-bytes c = search (rules, list_laws, c.in_ok-k.was)
