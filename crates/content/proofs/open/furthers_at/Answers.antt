use Rattle.row.proofs.SingleLaws.{single_halt}
use Rattle.content.proofs.OpenLaws.{further_single, furthers_laws}
use borrow.Author.Rules.{rules}
use Rattle.content.proofs.open.furthers_at.Goals as goal

pub loop-i-init : goal.loop-i-init
loop-i-init c = search (rules, furthers_laws)

pub loop-i-smaller : goal.loop-i-smaller
loop-i-smaller c = search (rules, furthers_laws, c.in-Ok.ensures)

pub loop-i-preserved : goal.loop-i-preserved
loop-i-preserved c = search (rules, furthers_laws)

pub returns-in-Err-Miss : goal.returns-in-Err-Miss
returns-in-Err-Miss c = search (rules, furthers_laws, c.in-Err-Miss.ensures)

pub returns-in-Err : goal.returns-in-Err
returns-in-Err c = let halt = single_halt _ _ _ _ _ _ _ _ _ c.loop-i.invariant (further_single _) _ c.further_at.ensures in search (rules, halt)

pub returns : goal.returns
returns c = search (rules, furthers_laws)
