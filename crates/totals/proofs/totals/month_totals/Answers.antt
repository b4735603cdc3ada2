use Rattle.totals.proofs.CallLaws.{month_done}
use borrow.Author.Rules.{rules}
use Rattle.totals.proofs.totals.month_totals.Goals as goal

pub returns-then-work-used : goal.returns-then-work-used
returns-then-work-used c = search (rules, month_done)

pub returns : goal.returns
returns c = search (rules, month_done)
