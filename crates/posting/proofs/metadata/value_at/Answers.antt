use Rattle.posting.proofs.MetaLaws.{value_laws}
use borrow.Author.Rules.{rules}
use Rattle.posting.proofs.metadata.value_at.Goals as goal

pub overflow_add-at : goal.overflow_add-at
overflow_add-at c = search (rules, value_laws)

pub overflow_sub-e : goal.overflow_sub-e
overflow_sub-e c = search (rules, value_laws)

pub returns-in-Some : goal.returns-in-Some
returns-in-Some c = search (rules, value_laws)

pub returns-in-None : goal.returns-in-None
returns-in-None c = search (rules, value_laws)
