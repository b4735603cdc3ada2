use Rattle.access.proofs.SpanLaws.{span_laws}
use borrow.Author.Rules.{rules}
use Rattle.access.proofs.span.text_of.Goals as goal

pub is_good-requires : goal.is_good-requires
is_good-requires c = search (rules, span_laws)

pub slice_bounds-result-count : goal.slice_bounds-result-count
slice_bounds-result-count c = search (rules, span_laws)

pub slice_bounds-result-start : goal.slice_bounds-result-start
slice_bounds-result-start c = search (rules, span_laws)

pub slice_bounds-result-end : goal.slice_bounds-result-end
slice_bounds-result-end c = search (rules, span_laws)

pub returns-then-is_good : goal.returns-then-is_good
returns-then-is_good c = search (rules, span_laws)

pub slice_bounds-result-count-2 : goal.slice_bounds-result-count-2
slice_bounds-result-count-2 c = search (rules, span_laws)

pub slice_bounds-result-start-2 : goal.slice_bounds-result-start-2
slice_bounds-result-start-2 c = search (rules, span_laws)

pub slice_bounds-result-end-2 : goal.slice_bounds-result-end-2
slice_bounds-result-end-2 c = search (rules, span_laws)

pub returns : goal.returns
returns c = search (rules, span_laws)
