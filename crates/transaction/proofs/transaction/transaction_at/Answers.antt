use Rattle.transaction.proofs.ChainLaws.{transaction_laws}
use borrow.Author.Rules.{rules}
use Rattle.transaction.proofs.transaction.transaction_at.Goals as goal

pub returns-in_err-e : goal.returns-in_err-e
returns-in_err-e c = search (rules, transaction_laws, c.in_err-e.was)

pub body_at-requires : goal.body_at-requires
body_at-requires c = search (rules, transaction_laws, c.in_ok-e.was)

pub returns : goal.returns
returns c = search (rules, transaction_laws, c.in_ok-e.was)
