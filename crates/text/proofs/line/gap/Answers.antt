use Rattle.text.proofs.LineLaws.{gap_laws}
use borrow.Author.Rules.{rules}
use Rattle.text.proofs.line.gap.Goals as goal

pub returns-then-at-e : goal.returns-then-at-e
returns-then-at-e c = search (rules, gap_laws)

pub returns-else-at-e : goal.returns-else-at-e
returns-else-at-e c = search (rules, gap_laws)
