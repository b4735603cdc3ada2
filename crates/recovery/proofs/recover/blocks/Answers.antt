use Rattle.recovery.proofs.BlocksLaws.{blocks_laws}
use borrow.Author.Rules.{rules}
use Rattle.recovery.proofs.recover.blocks.Goals as goal

pub loop-at-init : goal.loop-at-init
loop-at-init c = search (rules, blocks_laws)

pub overflow_add-end : goal.overflow_add-end
overflow_add-end c = search (rules, blocks_laws)

pub slice_bounds-block-end : goal.slice_bounds-block-end
slice_bounds-block-end c = search (rules, blocks_laws)

pub overflow_add-n : goal.overflow_add-n
overflow_add-n c = search (rules, blocks_laws)

pub loop-at-smaller : goal.loop-at-smaller
loop-at-smaller c = search (rules, blocks_laws)

pub loop-at-preserved : goal.loop-at-preserved
loop-at-preserved c = search (rules, blocks_laws)

pub returns-clause-answer : goal.returns-clause-answer
returns-clause-answer c = search (rules, blocks_laws)

pub returns-clause-rows : goal.returns-clause-rows
returns-clause-rows c = search (rules, blocks_laws)
