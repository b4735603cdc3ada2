use Rattle.row.proofs.WriteLaws.{writing}
use borrow.Author.Rules.{rules}
use Rattle.row.proofs.writer.value_bits.Goals as goal

pub returns-in-Ok : goal.returns-in-Ok
returns-in-Ok c = search (rules, writing)

pub returns-in-Err : goal.returns-in-Err
returns-in-Err c = search (rules, writing)
