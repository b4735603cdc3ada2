use Rattle.text.proofs.TagLaws.{marked_laws}
use borrow.Author.Rules.{rules}
use Rattle.text.proofs.tag.link.Goals as goal

pub returns-then-s-at-eq94 : goal.returns-then-s-at-eq94
returns-then-s-at-eq94 c = search (rules, marked_laws)

pub returns-else-s-at-eq94 : goal.returns-else-s-at-eq94
returns-else-s-at-eq94 c = search (rules, marked_laws)

pub returns-else-at-s : goal.returns-else-at-s
returns-else-at-s c = search (rules, marked_laws)
