use Rattle.posting.proofs.LotWrites.{optional_price_laws}
use borrow.Author.Rules.{rules}
use Rattle.posting.proofs.cost.optional_price.Goals as goal

pub returns-in_default : goal.returns-in_default
returns-in_default c = search (rules, optional_price_laws)

pub returns-in-Ok : goal.returns-in-Ok
returns-in-Ok c = search (rules, optional_price_laws)

pub returns-in-Err-Miss : goal.returns-in-Err-Miss
returns-in-Err-Miss c = search (rules, optional_price_laws)

pub returns-in-Err : goal.returns-in-Err
returns-in-Err c = search (rules, optional_price_laws)
