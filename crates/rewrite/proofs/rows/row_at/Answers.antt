use Rattle.rewrite.proofs.RowsLaws.{row_laws}
use borrow.Author.Rules.{rules}
use Rattle.rewrite.proofs.rows.row_at.Goals as goal

pub returns-then-n-i : goal.returns-then-n-i
returns-then-n-i c = search (rules, row_laws)

pub returns : goal.returns
returns c = search (rules, row_laws)
