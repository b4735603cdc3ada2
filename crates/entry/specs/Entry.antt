-- The rows of an entry, with places and lines counted from its start; the values of its rows; its refusals.
use Rattle.text.specs.declared.stop.Cause.{Cause}
use Rattle.decimal.specs.Faults.{number_of}
use Rattle.std.specs.Prelude.{ℕ, List, [], ◌∷◌, map, pos, length, take, Err, Ok}
use Rattle.text.specs.Answer.{Ans, To, Miss, Hard}
use Rattle.text.specs.Refusals.{cause_number}
use Rattle.amount.specs.declared.detail.Detail.{Detail}
use Rattle.row.specs.declared.table.Row.{Row}
use Rattle.row.specs.Row.{row_of, feeds}
use Rattle.row.specs.Details.{millionths, value_place}
use Rattle.entry.specs.Forms.{Form, form_of}

-- a detail's row; u is the entry's own text
unfoldable pub detail_row : List ℕ → Detail → Row
detail_row u d = row_of d.kind d.start d.end (feeds (take d.start u)) d.p d.q (millionths d.value)

-- the rows of an entry of n bytes: p its date or 0, q the number of the detail rows after it
unfoldable pub rows_of : List ℕ → ℕ → Form → List Row
rows_of s n f = row_of f.kind 0 n 0 f.date (length f.details) (pos 0) ∷ map (detail_row (take n s)) f.details

-- an entry that reads: its length and rows; or the number and place of its refusal
pub data Reads : Type 0 where
  got : ℕ → List Row → Reads
  refuse : ℕ → ℕ → Reads

-- the values of an entry's rows, in row order
unfoldable pub judged : List Detail → Reads → Reads
judged [] r = r
judged (d ∷ ds) r = elim d.value [ Ok x ↦ judged ds r | Err fault ↦ refuse (number_of fault) (value_place d) ]

-- 3 stands at its group, 4 at the entry's start
unfoldable pub hard_place : Cause → ℕ → ℕ
hard_place Cause.TooDeep p = p
hard_place cause p = 0

-- 5 stands at the entry's start
unfoldable pub settled : List ℕ → Ans Form → Reads
settled s (To n f) = judged f.details (got n (rows_of s n f))
settled s Miss = refuse 5 0
settled s (Hard cause p) = refuse (cause_number cause) (hard_place cause p)

unfoldable pub entry_of : List ℕ → Reads
entry_of s = settled s (form_of s)
