use Rattle.access.proofs.TagLaws.{row_laws}
use borrow.Author.Rules.{rules}
use Rattle.access.proofs.tables.row.Goals as goal

pub returns-then-k-t : goal.returns-then-k-t
returns-then-k-t c = search (rules, row_laws)

pub returns-else-k-t : goal.returns-else-k-t
returns-else-k-t c = search (rules, row_laws)
