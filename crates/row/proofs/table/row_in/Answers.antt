use Rattle.row.proofs.TableLaws.{reads}
use borrow.Author.Rules.{rules}
use Rattle.row.proofs.table.row_in.Goals as goal

pub returns : goal.returns
returns c = search (rules, reads)
