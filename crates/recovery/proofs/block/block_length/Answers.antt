use Rattle.recovery.proofs.BlockEnds.{length_laws}
use borrow.Author.Rules.{rules}
use Rattle.recovery.proofs.block.block_length.Goals as goal

pub loop-i-init : goal.loop-i-init
loop-i-init c = search (rules, length_laws)

pub run-feed-requires : goal.run-feed-requires
run-feed-requires c = search (rules, length_laws)

pub returns-then-s-feed : goal.returns-then-s-feed
returns-then-s-feed c = search (rules, length_laws)

pub overflow_add-i : goal.overflow_add-i
overflow_add-i c = search (rules, length_laws)

pub peek-requires : goal.peek-requires
peek-requires c = search (rules, length_laws)

pub is_start-requires : goal.is_start-requires
is_start-requires c = search (rules, length_laws)

pub returns-then-is_start : goal.returns-then-is_start
returns-then-is_start c = search (rules, length_laws)

pub loop-i-smaller : goal.loop-i-smaller
loop-i-smaller c = search (rules, length_laws)

pub loop-i-preserved : goal.loop-i-preserved
loop-i-preserved c = search (rules, length_laws)

pub returns : goal.returns
returns c = search (rules, length_laws)
