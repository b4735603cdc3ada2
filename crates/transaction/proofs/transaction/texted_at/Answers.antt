use Rattle.transaction.proofs.ChainLaws.{texted_laws}
use borrow.Author.Rules.{rules}
use Rattle.transaction.proofs.transaction.texted_at.Goals as goal

pub returns-in_err-e : goal.returns-in_err-e
returns-in_err-e c = search (rules, texted_laws, c.in_err-e.was)

pub marked_at-requires : goal.marked_at-requires
marked_at-requires c = search (rules, texted_laws, c.in_ok-e.was)

pub returns : goal.returns
returns c = search (rules, texted_laws, c.in_ok-e.was)
