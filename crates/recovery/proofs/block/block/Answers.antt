use Rattle.recovery.proofs.BlockRows.{block_laws}
use borrow.Author.Rules.{rules}
use Rattle.recovery.proofs.block.block.Goals as goal

pub returns-in-Ok-clause-answer : goal.returns-in-Ok-clause-answer
returns-in-Ok-clause-answer c = search (rules, block_laws, c.in-Ok.ensures)

pub returns-in-Ok-clause-rows : goal.returns-in-Ok-clause-rows
returns-in-Ok-clause-rows c = search (rules, block_laws)

pub returns-in-Err-clause-answer : goal.returns-in-Err-clause-answer
returns-in-Err-clause-answer c = search (rules, block_laws, c.in-Err.ensures)

pub returns-in-Err-clause-rows : goal.returns-in-Err-clause-rows
returns-in-Err-clause-rows c = search (rules, block_laws)
