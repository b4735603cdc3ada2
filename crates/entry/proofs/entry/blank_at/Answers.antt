use Rattle.entry.proofs.UndatedLaws.{blank_laws}
use borrow.Author.Rules.{rules}
use Rattle.entry.proofs.entry.blank_at.Goals as goal

pub returns-then-e-s : goal.returns-then-e-s
returns-then-e-s c = search (rules, blank_laws)

pub returns : goal.returns
returns c = search (rules, blank_laws)
