use Rattle.content.proofs.OpenLaws.{currencies_laws}
use borrow.Author.Rules.{rules}
use Rattle.content.proofs.open.currencies_at.Goals as goal

pub furthers_at-requires : goal.furthers_at-requires
furthers_at-requires c = search (rules, currencies_laws, c.in-Ok.ensures)

pub returns-in-Ok : goal.returns-in-Ok
returns-in-Ok c = search (rules, currencies_laws, c.in-Ok.ensures)

pub returns-in-Err-Miss : goal.returns-in-Err-Miss
returns-in-Err-Miss c = search (rules, currencies_laws, c.in-Err-Miss.ensures)

pub returns-in-Err : goal.returns-in-Err
returns-in-Err c = search (rules, currencies_laws, c.in-Err.ensures)
