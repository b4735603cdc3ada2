use Rattle.walk.proofs.SeenLaws.{seen_laws}
use borrow.Author.Rules.{rules}
use Rattle.walk.proofs.step.posted_in.Goals as goal

pub returns-then-next-eq-AMOUNT : goal.returns-then-next-eq-AMOUNT
returns-then-next-eq-AMOUNT c = search (rules, seen_laws)

pub returns-else-next-eq-AMOUNT : goal.returns-else-next-eq-AMOUNT
returns-else-next-eq-AMOUNT c = search (rules, seen_laws)

pub returns-else-n-gt1 : goal.returns-else-n-gt1
returns-else-n-gt1 c = search (rules, seen_laws)
