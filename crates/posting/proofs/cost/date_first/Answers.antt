use Rattle.posting.proofs.LotLaws.{first_laws}
use borrow.Author.Rules.{rules}
use Rattle.posting.proofs.cost.date_first.Goals as goal

pub returns-in-Err-Miss : goal.returns-in-Err-Miss
returns-in-Err-Miss c = search (rules, first_laws)

pub returns-in_default : goal.returns-in_default
returns-in_default c = search (rules, first_laws)

pub returns-in_default-2 : goal.returns-in_default-2
returns-in_default-2 c = search (rules, first_laws)
