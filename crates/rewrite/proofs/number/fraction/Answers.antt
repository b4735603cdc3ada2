use Rattle.rewrite.proofs.NumberLaws.{fraction_laws}
use borrow.Author.Rules.{rules}
use Rattle.rewrite.proofs.number.fraction.Goals as goal

pub returns-then-n-eq0 : goal.returns-then-n-eq0
returns-then-n-eq0 c = search (rules, fraction_laws)

pub returns-then-e-eq0 : goal.returns-then-e-eq0
returns-then-e-eq0 c = search (rules, fraction_laws)

pub returns : goal.returns
returns c = search (rules, fraction_laws)
