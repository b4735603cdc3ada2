use Rattle.text.proofs.TagLaws.{marked_laws}
use borrow.Author.Rules.{rules}
use Rattle.text.proofs.tag.tag.Goals as goal

pub returns-then-s-at-eq35 : goal.returns-then-s-at-eq35
returns-then-s-at-eq35 c = search (rules, marked_laws)

pub returns-else-s-at-eq35 : goal.returns-else-s-at-eq35
returns-else-s-at-eq35 c = search (rules, marked_laws)

pub returns-else-at-s : goal.returns-else-at-s
returns-else-at-s c = search (rules, marked_laws)
