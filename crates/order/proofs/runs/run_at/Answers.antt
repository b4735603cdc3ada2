use Rattle.order.proofs.RunLaws.{part_laws}
use borrow.Author.Rules.{rules}
use Rattle.order.proofs.runs.run_at.Goals as goal

pub run_end-end-requires : goal.run_end-end-requires
run_end-end-requires c = search (rules, part_laws)

pub overflow_mul-i : goal.overflow_mul-i
overflow_mul-i c = search (rules, part_laws)

pub overflow_mul-end : goal.overflow_mul-end
overflow_mul-end c = search (rules, part_laws)

pub slice_bounds-sum-count : goal.slice_bounds-sum-count
slice_bounds-sum-count c = search (rules, part_laws)

pub slice_bounds-sum-start : goal.slice_bounds-sum-start
slice_bounds-sum-start c = search (rules, part_laws)

pub slice_bounds-sum-end : goal.slice_bounds-sum-end
slice_bounds-sum-end c = search (rules, part_laws)

pub sum-requires : goal.sum-requires
sum-requires c = search (rules, part_laws)

pub returns-clause-end : goal.returns-clause-end
returns-clause-end c = search (rules, part_laws)

pub returns-clause-within : goal.returns-clause-within
returns-clause-within c = search (rules, part_laws)

pub returns-clause-sum : goal.returns-clause-sum
returns-clause-sum c = search (rules, part_laws)
