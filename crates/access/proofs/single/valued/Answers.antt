use Rattle.access.proofs.SingleLaws.{single_laws}
use borrow.Author.Rules.{rules}
use Rattle.access.proofs.single.valued.Goals as goal

pub returns-in-Ok : goal.returns-in-Ok
returns-in-Ok c = search (rules, single_laws)

pub returns-in-Err : goal.returns-in-Err
returns-in-Err c = search (rules, single_laws)
