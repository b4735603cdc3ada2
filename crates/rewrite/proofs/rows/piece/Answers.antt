use Rattle.rewrite.proofs.RowsLaws.{piece_laws}
use borrow.Author.Rules.{rules}
use Rattle.rewrite.proofs.rows.piece.Goals as goal

pub returns-then-x-lt-FIRST_DETAIL : goal.returns-then-x-lt-FIRST_DETAIL
returns-then-x-lt-FIRST_DETAIL c = search (rules, piece_laws)

pub returns : goal.returns
returns c = search (rules, piece_laws)
