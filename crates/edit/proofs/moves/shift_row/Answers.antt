use Rattle.edit.proofs.ShiftLaws.{shift_all}
use borrow.Author.Rules.{rules}
use borrow.Author.Rules.{rules}
use Rattle.edit.proofs.moves.shift_row.Goals as goal

pub returns : goal.returns
returns c = search (rules, shift_all)
