use Rattle.order.proofs.SumLaws.{sum_laws}
use borrow.Author.Rules.{rules}
use Rattle.order.proofs.sum.sum.Goals as goal
use Rattle.order.proofs.sum.sum.Goals.{then-bits-lt-HALF, else-bits-lt-HALF}

pub loop-i-init : goal.loop-i-init
loop-i-init c = search (rules, sum_laws)

pub loop-i-preserved : goal.loop-i-preserved
loop-i-preserved c =
    elim c.if-bits-lt-HALF.branch [
      | then-bits-lt-HALF w ↦ rw w.w-is (search (rules, sum_laws))
      | else-bits-lt-HALF w ↦ rw w.w-is (search (rules, sum_laws))
    ]

pub returns : goal.returns
returns c = search (rules, sum_laws)
