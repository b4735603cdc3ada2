use Rattle.lumbrisse.proofs.PartLaws.{part_laws}
use borrow.Author.Rules.{rules}
use Rattle.lumbrisse.proofs.lumbrisse_span.Goals as goal

pub is_good-requires : goal.is_good-requires
is_good-requires c = search (rules, part_laws)

pub overflow_sub-result : goal.overflow_sub-result
overflow_sub-result c = search (rules, part_laws)

pub returns-then-is_good : goal.returns-then-is_good
returns-then-is_good c = search (rules, part_laws)

pub returns : goal.returns
returns c = search (rules, part_laws)
