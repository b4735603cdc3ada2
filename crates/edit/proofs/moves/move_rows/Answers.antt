use Rattle.edit.proofs.ShiftLaws.{moved_laws}
use borrow.Author.Rules.{rules}
use Rattle.edit.proofs.moves.move_rows.Goals as goal

pub loop-i-preserved : goal.loop-i-preserved
loop-i-preserved c = search (rules, moved_laws)

pub returns : goal.returns
returns c = search (rules, moved_laws)
