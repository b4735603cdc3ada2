use Rattle.rewrite.proofs.HeadLaws.{close_laws}
use borrow.Author.Rules.{rules}
use Rattle.rewrite.proofs.head.close.Goals as goal

pub returns-then-k-le-BLANK : goal.returns-then-k-le-BLANK
returns-then-k-le-BLANK c = search (rules, close_laws)

pub returns-then-k-eq-PUSHTAG : goal.returns-then-k-eq-PUSHTAG
returns-then-k-eq-PUSHTAG c = search (rules, close_laws)

pub returns-then-k-eq-POPTAG : goal.returns-then-k-eq-POPTAG
returns-then-k-eq-POPTAG c = search (rules, close_laws)

pub returns : goal.returns
returns c = search (rules, close_laws)
