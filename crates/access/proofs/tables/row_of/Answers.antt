use Rattle.access.proofs.TagLaws.{read_laws}
use borrow.Author.Rules.{rules}
use Rattle.access.proofs.tables.row_of.Goals as goal

pub overflow_mul-at : goal.overflow_mul-at
overflow_mul-at c = search (rules, read_laws)

pub overflow_add-at : goal.overflow_add-at
overflow_add-at c = search (rules, read_laws)

pub field_at-requires : goal.field_at-requires
field_at-requires c = search (rules, read_laws)

pub overflow_add-at-2 : goal.overflow_add-at-2
overflow_add-at-2 c = search (rules, read_laws)

pub field_at-requires-2 : goal.field_at-requires-2
field_at-requires-2 c = search (rules, read_laws)

pub overflow_add-at-3 : goal.overflow_add-at-3
overflow_add-at-3 c = search (rules, read_laws)

pub field_at-requires-3 : goal.field_at-requires-3
field_at-requires-3 c = search (rules, read_laws)

pub overflow_add-at-4 : goal.overflow_add-at-4
overflow_add-at-4 c = search (rules, read_laws)

pub field_at-requires-4 : goal.field_at-requires-4
field_at-requires-4 c = search (rules, read_laws)

pub overflow_add-at-5 : goal.overflow_add-at-5
overflow_add-at-5 c = search (rules, read_laws)

pub field_at-requires-5 : goal.field_at-requires-5
field_at-requires-5 c = search (rules, read_laws)

pub overflow_add-at-6 : goal.overflow_add-at-6
overflow_add-at-6 c = search (rules, read_laws)

pub field_at-requires-6 : goal.field_at-requires-6
field_at-requires-6 c = search (rules, read_laws)

pub overflow_add-at-7 : goal.overflow_add-at-7
overflow_add-at-7 c = search (rules, read_laws)

pub field_at-requires-7 : goal.field_at-requires-7
field_at-requires-7 c = search (rules, read_laws)

pub returns : goal.returns
returns c = search (rules, read_laws)
