use Rattle.totals.proofs.MonthLaws.{count_laws, found_less}
use borrow.Author.Rules.{rules}
use Rattle.totals.proofs.month.count.Goals as goal

pub loop-next-init : goal.loop-next-init
loop-next-init c = search (rules, count_laws)

pub loop-next-smaller : goal.loop-next-smaller
loop-next-smaller c = found_less _ c.args.year c.args.month _ _ c.loop-next.invariant _ c.next_posting.ensures _ _ c.in-Some.is

pub loop-next-preserved : goal.loop-next-preserved
loop-next-preserved c = search (rules, count_laws)

pub returns-clause-count : goal.returns-clause-count
returns-clause-count c = search (rules, count_laws)

pub returns-clause-few : goal.returns-clause-few
returns-clause-few c = search (rules, count_laws)
