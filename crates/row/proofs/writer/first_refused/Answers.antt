use Rattle.row.proofs.WriteLaws.{writing}
use borrow.Author.Rules.{rules}
use Rattle.row.proofs.writer.first_refused.Goals as goal

pub returns-in-Some : goal.returns-in-Some
returns-in-Some c = search (rules, writing)

pub returns-in-Ok : goal.returns-in-Ok
returns-in-Ok c = search (rules, writing)

pub returns-in-Err : goal.returns-in-Err
returns-in-Err c = search (rules, writing)
