use Rattle.walk.specs.steps.Walks.{left}
use Rattle.totals.proofs.MonthLaws.{Putting}
use Rattle.totals.proofs.month.put.Given as goal

abbrev pub invariant-loop-next : goal.invariant-loop-next
invariant-loop-next l = Putting l.ledger l.year l.month l.initial.records l.c l.n l.records

abbrev pub decreases-loop-next : goal.decreases-loop-next
decreases-loop-next l = left l.ledger l.c
