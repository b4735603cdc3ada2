use Rattle.replay.proofs.HeaderLaws.{header_laws}
use borrow.Author.Rules.{rules}
use Rattle.replay.proofs.case.case_of.Goals as goal

pub field_at-requires : goal.field_at-requires
field_at-requires c = search (rules, header_laws)

pub field_at-requires-2 : goal.field_at-requires-2
field_at-requires-2 c = search (rules, header_laws)

pub field_at-requires-3 : goal.field_at-requires-3
field_at-requires-3 c = search (rules, header_laws)

pub field_at-requires-4 : goal.field_at-requires-4
field_at-requires-4 c = search (rules, header_laws)

pub field_at-requires-5 : goal.field_at-requires-5
field_at-requires-5 c = search (rules, header_laws)

pub field_at-requires-6 : goal.field_at-requires-6
field_at-requires-6 c = search (rules, header_laws)

pub field_at-requires-7 : goal.field_at-requires-7
field_at-requires-7 c = search (rules, header_laws)

pub field_at-requires-8 : goal.field_at-requires-8
field_at-requires-8 c = search (rules, header_laws)

pub returns : goal.returns
returns c = search (rules, header_laws)
