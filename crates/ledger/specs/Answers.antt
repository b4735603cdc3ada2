-- What plain reading answers, and every byte of the table afterwards.
use Rattle.text.specs.Refusals.{refused_with}
use Rattle.text.specs.declared.stop.Refused.{Refused}
use Rattle.std.specs.Prelude.{ℕ, ◌*◌, cond, List, ◌++◌, leb, length, drop, Err, Ok, Result}
use Rattle.row.specs.Row.{rows_bytes, width, room}
use Rattle.ledger.specs.Plain.{Reading, accepted, denied}

-- for a table with room for so many rows: 9 comes last, with the number of rows
unfoldable pub answer : Reading → ℕ → Result ℕ Refused
answer (accepted rs) room = cond (leb (length rs) room) (Ok (length rs)) (Err (refused_with 9 0 (length rs)))
answer (denied n p) room = Err (refused_with n p 0)

-- the rows from the table's front, bytes past the last row as they were; on a refusal every byte as it was
unfoldable pub left : Reading → List ℕ → List ℕ
left (accepted rs) t = cond (leb (length rs) (room t)) (rows_bytes rs ++ drop (length rs * width) t) t
left (denied n p) t = t
