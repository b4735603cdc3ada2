use Rattle.entry.proofs.FormLaws.{formed_laws}
use borrow.Author.Rules.{rules}
use Rattle.entry.proofs.directive.formed_as.Goals as goal

pub returns-in-Ok : goal.returns-in-Ok
returns-in-Ok c = search (rules, formed_laws)

pub returns-in-Err : goal.returns-in-Err
returns-in-Err c = search (rules, formed_laws)
