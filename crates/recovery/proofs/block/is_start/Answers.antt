use Rattle.recovery.proofs.BlockEnds.{start_laws}
use borrow.Author.Rules.{rules}
use Rattle.recovery.proofs.block.is_start.Goals as goal

pub is_digit-requires : goal.is_digit-requires
is_digit-requires c = search (rules, start_laws)

pub is_small-requires : goal.is_small-requires
is_small-requires c = search (rules, start_laws)

pub returns : goal.returns
returns c = search (rules, start_laws)
