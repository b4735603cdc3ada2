use Rattle.access.proofs.TagLaws.{name_laws}
use borrow.Author.Rules.{rules}
use Rattle.access.proofs.tables.is_named.Goals as goal

pub row_of-this-requires : goal.row_of-this-requires
row_of-this-requires c = search (rules, name_laws)

pub overflow_add-j : goal.overflow_add-j
overflow_add-j c = search (rules, name_laws)

pub row_of-next-requires : goal.row_of-next-requires
row_of-next-requires c = search (rules, name_laws)

pub is_good-requires : goal.is_good-requires
is_good-requires c = search (rules, name_laws)

pub text_of-requires : goal.text_of-requires
text_of-requires c = search (rules, name_laws)

pub returns-then-is_good : goal.returns-then-is_good
returns-then-is_good c = search (rules, name_laws)

pub returns-else-is_good : goal.returns-else-is_good
returns-else-is_good c = search (rules, name_laws)

pub returns-else-next-eq-TAG : goal.returns-else-next-eq-TAG
returns-else-next-eq-TAG c = search (rules, name_laws)

pub returns-else-kind : goal.returns-else-kind
returns-else-kind c = search (rules, name_laws)
