use borrow.Author.Rules.{rules}
use Rattle.replay.proofs.SpaceLaws.{kept_laws}
use Rattle.replay.proofs.space.of_spaced.Goals as goal

pub returns-then-kept : goal.returns-then-kept
returns-then-kept c = search (rules, kept_laws)

pub returns : goal.returns
returns c = search (rules, kept_laws)
