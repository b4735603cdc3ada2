use Rattle.transaction.proofs.HeadLaws.{txn_laws}
use borrow.Author.Rules.{rules}
use Rattle.transaction.proofs.transaction.txn_at.Goals as goal

pub returns-in_err-e : goal.returns-in_err-e
returns-in_err-e c = search (rules, txn_laws, c.in_err-e.was)

pub returns : goal.returns
returns c = search (rules, txn_laws, c.in_ok-e.was)
