use Rattle.ledger.proofs.ReadLaws.{written_laws}
use borrow.Author.Rules.{rules}
use Rattle.ledger.proofs.read.written.Goals as goal

pub returns-then-table-n-clause-answer : goal.returns-then-table-n-clause-answer
returns-then-table-n-clause-answer c = search (rules, written_laws)

pub returns-then-table-n-clause-rows : goal.returns-then-table-n-clause-rows
returns-then-table-n-clause-rows c = search (rules, written_laws)

pub entries-requires : goal.entries-requires
entries-requires c = search (rules, written_laws)

pub returns-clause-answer : goal.returns-clause-answer
returns-clause-answer c = search (rules, written_laws)

pub returns-clause-rows : goal.returns-clause-rows
returns-clause-rows c = search (rules, written_laws)
