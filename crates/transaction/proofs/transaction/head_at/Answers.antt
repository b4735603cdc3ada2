use Rattle.transaction.proofs.ChainLaws.{head_laws}
use borrow.Author.Rules.{rules}
use Rattle.transaction.proofs.transaction.head_at.Goals as goal

pub returns-in_err-e : goal.returns-in_err-e
returns-in_err-e c = search (rules, head_laws, c.in_err-e.was)

pub texted_at-requires : goal.texted_at-requires
texted_at-requires c = search (rules, head_laws, c.in_ok-e.was)

pub returns : goal.returns
returns c = search (rules, head_laws, c.in_ok-e.was)
