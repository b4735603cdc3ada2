use Rattle.rewrite.proofs.NumberLaws.{kept_laws}
use borrow.Author.Rules.{rules}
use Rattle.rewrite.proofs.number.kept.Goals as goal

pub loop-i-init : goal.loop-i-init
loop-i-init c = search (rules, kept_laws)

pub returns-then-d-i-ne48 : goal.returns-then-d-i-ne48
returns-then-d-i-ne48 c = search (rules, kept_laws)

pub loop-i-preserved : goal.loop-i-preserved
loop-i-preserved c = search (rules, kept_laws)

pub returns : goal.returns
returns c = search (rules, kept_laws)
