use Rattle.ledger.proofs.StrictCode.{against_laws}
use borrow.Author.Rules.{rules}
use Rattle.ledger.proofs.strict.against.Goals as goal

pub returns-then-kind-eq-BLANK : goal.returns-then-kind-eq-BLANK
returns-then-kind-eq-BLANK c = search (rules, against_laws)

pub returns-then-kind-eq-TRANSACTION : goal.returns-then-kind-eq-TRANSACTION
returns-then-kind-eq-TRANSACTION c = search (rules, against_laws)

pub returns : goal.returns
returns c = search (rules, against_laws)
