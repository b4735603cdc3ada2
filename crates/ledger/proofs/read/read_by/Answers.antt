use Rattle.ledger.proofs.ReadLaws.{read_laws}
use borrow.Author.Rules.{rules}
use Rattle.ledger.proofs.read.read_by.Goals as goal

pub returns-in_err-n-clause-answer : goal.returns-in_err-n-clause-answer
returns-in_err-n-clause-answer c = search (rules, read_laws, c.in_err-n.was)

pub returns-in_err-n-clause-rows : goal.returns-in_err-n-clause-rows
returns-in_err-n-clause-rows c = search (rules, read_laws)
