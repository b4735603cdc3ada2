use Rattle.ledger.proofs.StrictCode.{flag_laws}
use borrow.Author.Rules.{rules}
use Rattle.ledger.proofs.strict.flag_passes.Goals as goal

pub is_small-requires : goal.is_small-requires
is_small-requires c = search (rules, flag_laws)

pub returns : goal.returns
returns c = search (rules, flag_laws)
