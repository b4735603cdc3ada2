use Rattle.ledger.proofs.PartLaws.{part_laws}
use borrow.Author.Rules.{rules}
use Rattle.ledger.proofs.scan.part.Goals as goal

pub returns-then-c-s-clause-answer : goal.returns-then-c-s-clause-answer
returns-then-c-s-clause-answer c = search (rules, part_laws)

pub returns-then-c-s-clause-rows : goal.returns-then-c-s-clause-rows
returns-then-c-s-clause-rows c = search (rules, part_laws)

pub returns-clause-answer : goal.returns-clause-answer
returns-clause-answer c = search (rules, part_laws)

pub returns-clause-rows : goal.returns-clause-rows
returns-clause-rows c = search (rules, part_laws)
