use Rattle.order.proofs.CompareLaws.{row_there}
use borrow.Author.Rules.{rules}
use Rattle.order.proofs.compare.row_at.Goals as goal

pub overflow_mul-at : goal.overflow_mul-at
overflow_mul-at c = search (rules, row_there)

pub overflow_add-at : goal.overflow_add-at
overflow_add-at c = search (rules, row_there)

pub slice_bounds-fields_in-count : goal.slice_bounds-fields_in-count
slice_bounds-fields_in-count c = search (rules, row_there)

pub slice_bounds-fields_in-start : goal.slice_bounds-fields_in-start
slice_bounds-fields_in-start c = search (rules, row_there)

pub slice_bounds-fields_in-end : goal.slice_bounds-fields_in-end
slice_bounds-fields_in-end c = search (rules, row_there)

pub fields_in-requires : goal.fields_in-requires
fields_in-requires c = search (rules, row_there)

pub returns : goal.returns
returns c = search (rules, row_there)
