use Rattle.edit.proofs.ShiftLaws.{move_laws}
use borrow.Author.Rules.{rules}
use borrow.Author.Rules.{rules}
use Rattle.edit.proofs.moves.move_if.Goals as goal

pub returns-then-asked : goal.returns-then-asked
returns-then-asked c = search (rules, move_laws)
