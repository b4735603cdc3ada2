use Rattle.text.proofs.LineLaws.{comma_laws}
use borrow.Author.Rules.{rules}
use Rattle.text.proofs.line.comma_at.Goals as goal

pub returns-then-s-b-eq44 : goal.returns-then-s-b-eq44
returns-then-s-b-eq44 c = search (rules, comma_laws)

pub returns-else-s-b-eq44 : goal.returns-else-s-b-eq44
returns-else-s-b-eq44 c = search (rules, comma_laws)

pub returns-else-b-s : goal.returns-else-b-s
returns-else-b-s c = search (rules, comma_laws)
