use Rattle.posting.proofs.PostWrites.{units_laws}
use borrow.Author.Rules.{rules}
use Rattle.posting.proofs.posting.units_at.Goals as goal

pub returns-in_default : goal.returns-in_default
returns-in_default c = search (rules, units_laws)

pub costs_at-requires : goal.costs_at-requires
costs_at-requires c = search (rules, units_laws)

pub returns-in-Ok : goal.returns-in-Ok
returns-in-Ok c = search (rules, units_laws)

pub returns-in-Err-Miss : goal.returns-in-Err-Miss
returns-in-Err-Miss c = search (rules, units_laws)

pub returns-in-Err : goal.returns-in-Err
returns-in-Err c = search (rules, units_laws)
