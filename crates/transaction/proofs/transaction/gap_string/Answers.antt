use Rattle.transaction.proofs.HeadLaws.{spaced_laws}
use borrow.Author.Rules.{rules}
use Rattle.transaction.proofs.transaction.gap_string.Goals as goal

pub returns-in_err-a : goal.returns-in_err-a
returns-in_err-a c = search (rules, spaced_laws, c.in_err-a.was)

pub returns-in_err-e : goal.returns-in_err-e
returns-in_err-e c = search (rules, spaced_laws, c.in_ok-a.was, c.in_err-e.was)

pub returns : goal.returns
returns c = search (rules, spaced_laws, c.in_ok-a.was, c.in_ok-e.was)
