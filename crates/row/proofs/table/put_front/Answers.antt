use Rattle.row.proofs.TableLaws.{rows}
use borrow.Author.Rules.{rules}
use Rattle.row.proofs.table.put_front.Goals as goal

pub returns-then-t-lt-WIDTH : goal.returns-then-t-lt-WIDTH
returns-then-t-lt-WIDTH c = search (rules, rows)

pub returns : goal.returns
returns c = search (rules, rows)
