use Rattle.posting.proofs.MetaLaws.{number_laws}
use borrow.Author.Rules.{rules}
use Rattle.posting.proofs.metadata.number_value.Goals as goal

pub returns-in-Ok : goal.returns-in-Ok
returns-in-Ok c = search (rules, number_laws)

pub returns-in-Err-Miss : goal.returns-in-Err-Miss
returns-in-Err-Miss c = search (rules, number_laws)

pub returns-in-Err : goal.returns-in-Err
returns-in-Err c = search (rules, number_laws)
