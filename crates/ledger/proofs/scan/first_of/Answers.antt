use Rattle.ledger.proofs.StrictScan.{first_laws}
use borrow.Author.Rules.{rules}
use Rattle.ledger.proofs.scan.first_of.Goals as goal

pub returns-in-Some : goal.returns-in-Some
returns-in-Some c = search (rules, first_laws)

pub returns-in_err-o : goal.returns-in_err-o
returns-in_err-o c = search (rules, first_laws, c.in_err-o.was)

pub returns : goal.returns
returns c = search (rules, first_laws, c.in_ok-o.was)
