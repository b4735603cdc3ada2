use Rattle.edit.proofs.FreshLaws.{count_laws}
use borrow.Author.Rules.{rules}
use Rattle.edit.proofs.reread.new_count.Goals as goal

pub returns-in-Ok : goal.returns-in-Ok
returns-in-Ok c = search (rules, count_laws, c.in-Ok.ensures)

pub returns-in-Err : goal.returns-in-Err
returns-in-Err c = search (rules, count_laws, c.in-Err.ensures)
