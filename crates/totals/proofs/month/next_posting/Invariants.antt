use Rattle.walk.specs.Postings.{dated}
use Rattle.walk.specs.steps.Walks.{left}
use Rattle.totals.proofs.MonthLaws.{Quiet}
use Rattle.totals.proofs.month.next_posting.Given as goal

abbrev pub invariant-loop-next : goal.invariant-loop-next
invariant-loop-next l = Quiet (dated l.year l.month) l.ledger l.fn.from l.c

abbrev pub decreases-loop-next : goal.decreases-loop-next
decreases-loop-next l = left l.ledger l.c
