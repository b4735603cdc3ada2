use Rattle.order.proofs.HalfLaws.{call_laws}
use borrow.Author.Rules.{rules}
use Rattle.order.proofs.sort.sort.Goals as goal

pub overflow_mul-t : goal.overflow_mul-t
overflow_mul-t c = search (rules, call_laws)

pub returns-then-work-t-clause-answer : goal.returns-then-work-t-clause-answer
returns-then-work-t-clause-answer c = search (rules, call_laws)

pub returns-then-work-t-clause-bytes : goal.returns-then-work-t-clause-bytes
returns-then-work-t-clause-bytes c = search (rules, call_laws)

pub sort_part-requires : goal.sort_part-requires
sort_part-requires c = search (rules, call_laws)

pub shape_of-t : goal.shape_of-t
shape_of-t c = search (rules, call_laws)

pub shape_of-work : goal.shape_of-work
shape_of-work c = search (rules, call_laws)

pub returns-clause-answer : goal.returns-clause-answer
returns-clause-answer c = search (rules, call_laws)

pub returns-clause-bytes : goal.returns-clause-bytes
returns-clause-bytes c = search (rules, call_laws)
