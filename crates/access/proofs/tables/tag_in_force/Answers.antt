use Rattle.access.proofs.TagLaws.{force_laws}
use borrow.Author.Rules.{rules}
use Rattle.access.proofs.tables.tag_in_force.Goals as goal

pub returns-then-k-eq0 : goal.returns-then-k-eq0
returns-then-k-eq0 c = search (rules, force_laws)

pub returns-then-t-k : goal.returns-then-t-k
returns-then-t-k c = search (rules, force_laws)

pub returns-in-Some : goal.returns-in-Some
returns-in-Some c = search (rules, force_laws)

pub returns-in-None : goal.returns-in-None
returns-in-None c = search (rules, force_laws)
