use Rattle.text.proofs.PermittedLaws.{stand_laws}
use borrow.Author.Rules.{rules}
use Rattle.text.proofs.permitted.may_stand.Goals as goal

pub returns-then-b-ge32 : goal.returns-then-b-ge32
returns-then-b-ge32 c = search (rules, stand_laws)

pub returns-then-b-eq10 : goal.returns-then-b-eq10
returns-then-b-eq10 c = search (rules, stand_laws)

pub returns-then-b-eq9 : goal.returns-then-b-eq9
returns-then-b-eq9 c = search (rules, stand_laws)

pub returns-then-b-eq13 : goal.returns-then-b-eq13
returns-then-b-eq13 c = search (rules, stand_laws)

pub returns : goal.returns
returns c = search (rules, stand_laws)
