use Rattle.edit.proofs.ShiftLaws.{q_moves}
use borrow.Author.Rules.{rules}
use borrow.Author.Rules.{rules}
use Rattle.edit.proofs.moves.moves_q.Goals as goal

pub returns : goal.returns
returns c = search (rules, q_moves)
