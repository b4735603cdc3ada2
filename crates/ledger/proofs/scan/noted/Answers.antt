use Rattle.ledger.proofs.StrictScan.{noted_laws}
use borrow.Author.Rules.{rules}
use Rattle.ledger.proofs.scan.noted.Goals as goal

pub first_of-requires : goal.first_of-requires
first_of-requires c = search (rules, noted_laws)

pub returns-in-Plain : goal.returns-in-Plain
returns-in-Plain c = search (rules, noted_laws)

pub returns-in-Strict : goal.returns-in-Strict
returns-in-Strict c = search (rules, noted_laws)
