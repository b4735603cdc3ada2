use Rattle.ledger.proofs.StrictCode.{flagged_laws}
use borrow.Author.Rules.{rules}
use Rattle.ledger.proofs.strict.flagged.Goals as goal

pub returns-then-flag_passes : goal.returns-then-flag_passes
returns-then-flag_passes c = search (rules, flagged_laws)

pub returns : goal.returns
returns c = search (rules, flagged_laws)
