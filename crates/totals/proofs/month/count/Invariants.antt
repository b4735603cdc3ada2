use Rattle.walk.specs.steps.Walks.{left}
use Rattle.totals.proofs.MonthLaws.{Passed}
use Rattle.totals.proofs.month.count.Given as goal

abbrev pub invariant-loop-next : goal.invariant-loop-next
invariant-loop-next l = Passed l.ledger l.year l.month l.c l.n

abbrev pub decreases-loop-next : goal.decreases-loop-next
decreases-loop-next l = left l.ledger l.c
