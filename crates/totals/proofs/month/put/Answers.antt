use Rattle.totals.proofs.MonthLaws.{put_laws, putting_less}
use borrow.Author.Rules.{rules}
use Rattle.totals.proofs.month.put.Goals as goal

pub loop-next-init : goal.loop-next-init
loop-next-init c = search (rules, put_laws)

pub loop-next-smaller : goal.loop-next-smaller
loop-next-smaller c = putting_less _ c.args.year c.args.month _ _ _ _ c.loop-next.invariant _ c.next_posting.ensures _ _ c.in-Some.is

pub loop-next-preserved : goal.loop-next-preserved
loop-next-preserved c = search (rules, put_laws)

pub returns-clause-bytes : goal.returns-clause-bytes
returns-clause-bytes c = search (rules, put_laws)

pub returns-clause-held : goal.returns-clause-held
returns-clause-held c = search (rules, put_laws)
