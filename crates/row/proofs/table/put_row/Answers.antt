use Rattle.row.proofs.TableLaws.{rows}
use borrow.Author.Rules.{rules}
use Rattle.row.proofs.table.put_row.Goals as goal

pub returns-then-n-t : goal.returns-then-n-t
returns-then-n-t c = search (rules, rows)

pub returns-else-n-t : goal.returns-else-n-t
returns-else-n-t c = search (rules, rows)
