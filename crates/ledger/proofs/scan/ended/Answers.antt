use Rattle.ledger.proofs.StrictScan.{ended_laws}
use borrow.Author.Rules.{rules}
use Rattle.ledger.proofs.scan.ended.Goals as goal

pub returns-in-None : goal.returns-in-None
returns-in-None c = search (rules, ended_laws)

pub returns-in-Some : goal.returns-in-Some
returns-in-Some c = search (rules, ended_laws)
