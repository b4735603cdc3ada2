use Rattle.access.proofs.ContentLaws.{taken_laws}
use borrow.Author.Rules.{rules}
use Rattle.access.proofs.content.taken_by.Goals as goal

pub returns-then-is_ordinary : goal.returns-then-is_ordinary
returns-then-is_ordinary c = search (rules, taken_laws)

pub returns-then-is_escaped : goal.returns-then-is_escaped
returns-then-is_escaped c = search (rules, taken_laws)

pub returns-else-ordinary : goal.returns-else-ordinary
returns-else-ordinary c = search (rules, taken_laws)
