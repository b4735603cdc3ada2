use Rattle.engine.proofs.Answering.{after_laws}
use borrow.Author.Rules.{rules}
use Rattle.engine.proofs.after.Goals as goal

pub join-requires : goal.join-requires
join-requires c = search (rules, after_laws)

pub waiting-requires : goal.waiting-requires
waiting-requires c = search (rules, after_laws)

pub returns-then-times : goal.returns-then-times
returns-then-times c = search (rules, after_laws)

pub total-requires : goal.total-requires
total-requires c = search (rules, after_laws)

pub waiting-requires-2 : goal.waiting-requires-2
waiting-requires-2 c = search (rules, after_laws)

pub returns : goal.returns
returns c = search (rules, after_laws)
