use Rattle.totals.proofs.CallLaws.{month_ordered, month_laws}
use borrow.Author.Rules.{rules}
use Rattle.totals.proofs.totals.list_month.Goals as goal

pub list-requires : goal.list-requires
list-requires c =
    let a = c.args in
    month_ordered _ a.year a.month a.work.now _ _ c.requires.1 c.put.ensures.bytes c.put.ensures.held _ c.requires.2 c.sort.ensures.bytes

pub returns-clause-answer : goal.returns-clause-answer
returns-clause-answer c = search (rules, month_laws)

pub returns-clause-items : goal.returns-clause-items
returns-clause-items c = search (rules, month_laws)
