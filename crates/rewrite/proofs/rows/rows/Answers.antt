use Rattle.rewrite.proofs.RowsLaws.{rows_laws}
use borrow.Author.Rules.{rules}
use Rattle.rewrite.proofs.rows.rows.Goals as goal

pub loop-i-init : goal.loop-i-init
loop-i-init c = search (rules, rows_laws)

pub loop-i-preserved : goal.loop-i-preserved
loop-i-preserved c = search (rules, rows_laws)

pub returns : goal.returns
returns c = search (rules, rows_laws)
