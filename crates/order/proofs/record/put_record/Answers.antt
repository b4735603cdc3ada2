use Rattle.order.proofs.RecordLaws.{putting}
use borrow.Author.Rules.{rules}
use Rattle.order.proofs.record.put_record.Goals as goal

pub overflow_mul-at : goal.overflow_mul-at
overflow_mul-at c = search (rules, putting)

pub overflow_add-at : goal.overflow_add-at
overflow_add-at c = search (rules, putting)

pub slice_bounds-put_fields-count : goal.slice_bounds-put_fields-count
slice_bounds-put_fields-count c = search (rules, putting)

pub slice_bounds-put_fields-start : goal.slice_bounds-put_fields-start
slice_bounds-put_fields-start c = search (rules, putting)

pub slice_bounds-put_fields-end : goal.slice_bounds-put_fields-end
slice_bounds-put_fields-end c = search (rules, putting)

pub put_fields-requires : goal.put_fields-requires
put_fields-requires c = search (rules, putting)

pub shape_of-t : goal.shape_of-t
shape_of-t c = search (rules, putting)

pub returns-then-n-t : goal.returns-then-n-t
returns-then-n-t c = search (rules, putting)

pub returns-else-n-t : goal.returns-else-n-t
returns-else-n-t c = search (rules, putting)
