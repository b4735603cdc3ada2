use Rattle.text.specs.Bytes.{bytes}
use Rattle.rewrite.specs.steps.Pieces.{dated_text}
use Rattle.rewrite.proofs.HeadLaws.{dated_laws}
use borrow.Author.Rules.{rules}
use Rattle.rewrite.proofs.head.dated.Goals as goal

pub returns-then-next-eq-FLAG : goal.returns-then-next-eq-FLAG
unfolding dated_text bytes
returns-then-next-eq-FLAG c = search (rules, dated_laws)

pub returns-then-kind-eq-TRANSACTION : goal.returns-then-kind-eq-TRANSACTION
unfolding dated_text bytes
returns-then-kind-eq-TRANSACTION c = search (rules, dated_laws)

pub returns-then-kind-eq-PRICE : goal.returns-then-kind-eq-PRICE
unfolding dated_text bytes
returns-then-kind-eq-PRICE c = search (rules, dated_laws)

pub returns-then-kind-eq-BALANCE : goal.returns-then-kind-eq-BALANCE
unfolding dated_text bytes
returns-then-kind-eq-BALANCE c = search (rules, dated_laws)

pub returns-then-kind-eq-OPEN : goal.returns-then-kind-eq-OPEN
unfolding dated_text bytes
returns-then-kind-eq-OPEN c = search (rules, dated_laws)

pub returns-then-kind-eq-CLOSE : goal.returns-then-kind-eq-CLOSE
unfolding dated_text bytes
returns-then-kind-eq-CLOSE c = search (rules, dated_laws)

pub returns-then-kind-eq-PAD : goal.returns-then-kind-eq-PAD
unfolding dated_text bytes
returns-then-kind-eq-PAD c = search (rules, dated_laws)

pub returns-then-kind-eq-COMMODITY : goal.returns-then-kind-eq-COMMODITY
unfolding dated_text bytes
returns-then-kind-eq-COMMODITY c = search (rules, dated_laws)

pub returns : goal.returns
unfolding dated_text bytes
returns c = search (rules, dated_laws)
