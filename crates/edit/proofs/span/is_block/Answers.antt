use Rattle.edit.proofs.SpanLaws.{block_laws}
use borrow.Author.Rules.{rules}
use borrow.Author.Rules.{rules}
use Rattle.edit.proofs.span.is_block.Goals as goal

pub overflow_add-a : goal.overflow_add-a
overflow_add-a c = search (rules, block_laws)

pub returns-then-e-a : goal.returns-then-e-a
returns-then-e-a c = search (rules, block_laws)

pub returns-else-e-a : goal.returns-else-e-a
returns-else-e-a c = search (rules, block_laws)

pub returns-else-a-s : goal.returns-else-a-s
returns-else-a-s c = search (rules, block_laws)
