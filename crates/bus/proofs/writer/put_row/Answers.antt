use Rattle.bus.proofs.RowLaws.{row_laws, text_room}
use borrow.Author.Rules.{rules}
use Rattle.bus.proofs.writer.put_row.Goals as goal

pub row_of-front-requires : goal.row_of-front-requires
row_of-front-requires c = search (rules, row_laws)

pub slice_bounds-row-count : goal.slice_bounds-row-count
slice_bounds-row-count c = search (rules, row_laws)

pub slice_bounds-row-start : goal.slice_bounds-row-start
slice_bounds-row-start c = search (rules, row_laws)

pub slice_bounds-row-end : goal.slice_bounds-row-end
slice_bounds-row-end c = search (rules, row_laws)

pub put_field-requires : goal.put_field-requires
put_field-requires c = search (rules, row_laws)

pub shape_of-buffer-then-front-lt-FIRST_DETAIL : goal.shape_of-buffer-then-front-lt-FIRST_DETAIL
shape_of-buffer-then-front-lt-FIRST_DETAIL c = search (rules, row_laws)

pub returns-then-front-lt-FIRST_DETAIL-clause-place : goal.returns-then-front-lt-FIRST_DETAIL-clause-place
returns-then-front-lt-FIRST_DETAIL-clause-place c = search (rules, row_laws)

pub returns-then-front-lt-FIRST_DETAIL-clause-bytes : goal.returns-then-front-lt-FIRST_DETAIL-clause-bytes
returns-then-front-lt-FIRST_DETAIL-clause-bytes c = search (rules, row_laws)

pub text_of-text-requires : goal.text_of-text-requires
text_of-text-requires c = search (rules, row_laws)

pub put_field-next-requires : goal.put_field-next-requires
put_field-next-requires c = search (rules, row_laws)

pub put_field-requires-2 : goal.put_field-requires-2
put_field-requires-2 c = text_room c.args.ledger.now c.args.u.now c.requires.there _ c.row_of-front.ensures c.if-front-lt-FIRST_DETAIL.false _ c.text_of-text.ensures _ c.args.at c.put_field-next.ensures.place _ _ c.requires c.put_field-next.ensures.bytes

pub shape_of-buffer : goal.shape_of-buffer
shape_of-buffer c = search (rules, row_laws)

pub returns-clause-place : goal.returns-clause-place
returns-clause-place c = search (rules, row_laws)

pub returns-clause-bytes : goal.returns-clause-bytes
returns-clause-bytes c = search (rules, row_laws)
