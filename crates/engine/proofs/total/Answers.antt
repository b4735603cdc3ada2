use Rattle.engine.proofs.Answering.{after_laws}
use borrow.Author.Rules.{rules}
use Rattle.engine.proofs.total.Goals as goal

pub join-requires : goal.join-requires
join-requires c = search (rules, after_laws)

pub join-requires-2 : goal.join-requires-2
join-requires-2 c = search (rules, after_laws)

pub returns : goal.returns
returns c = search (rules, after_laws)
