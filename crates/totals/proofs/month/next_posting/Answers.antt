use Rattle.totals.proofs.MonthLaws.{next_laws, quiet_less}
use borrow.Author.Rules.{rules}
use Rattle.totals.proofs.month.next_posting.Goals as goal

pub loop-next-init : goal.loop-next-init
loop-next-init c = search (rules, next_laws)

pub returns-in-Some-posting : goal.returns-in-Some-posting
returns-in-Some-posting c = search (rules, next_laws)

pub loop-next-smaller : goal.loop-next-smaller
loop-next-smaller c = quiet_less _ _ _ _ c.loop-next.invariant _ c.advance.ensures _ _ c.in-Some.is

pub loop-next-preserved : goal.loop-next-preserved
loop-next-preserved c = search (rules, next_laws)

pub returns : goal.returns
returns c = search (rules, next_laws)
