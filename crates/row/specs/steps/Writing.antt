-- What the row writer holds, and what a reader that writes has done.
use Rattle.text.specs.declared.stop.Stop.{Stop}
use Rattle.text.specs.steps.Told.{Reading}
use Rattle.decimal.specs.declared.Fault.{Fault}
use Rattle.std.specs.Prelude.{ℕ, ◌+◌, ◌*◌, ◌≤◌, cond, List, [], ◌∷◌, ◌++◌, map, ◌≡◌, length, Err, Ok, None, Option, Some}
use Rattle.text.specs.Answer.{To, Miss, Hard}
use Rattle.text.specs.Permitted.{size_limit}
use Rattle.amount.specs.declared.detail.Detail.{Detail}
use Rattle.amount.specs.Details.{Rows}
use Rattle.row.specs.declared.writer.Out.{Out}
use Rattle.row.specs.declared.table.Row.{Row}
use Rattle.row.specs.steps.Pouring.{pour_at}
use Rattle.row.specs.Row.{row_of}
use Rattle.row.specs.Details.{spanned, millionths, value_place}

-- the row of a detail of an entry that starts at a place; lines are set when all rows are there
unfoldable pub laid : ℕ → Detail → Row
laid base d =
    row_of d.kind (base + d.start) (base + d.end) 0 (cond (spanned d.kind) (base + d.p) d.p) (cond (spanned d.kind) (base + d.q) d.q)
    (millionths d.value)

-- the first refused value is kept, with its place
unfoldable pub first_refused : Option (Fault × ℕ) → Detail → Option (Fault × ℕ)
first_refused (Some first) d = Some first
first_refused None d = elim d.value [ Ok x ↦ None | Err fault ↦ Some (fault, value_place d) ]

-- one row more
unfoldable pub noted : Out → Detail → Out
noted o d = record { rows = o.rows + 1; refused = first_refused o.refused d }

-- a row, if it is one
unfoldable pub some_row : Option Detail → List Detail
some_row None = []
some_row (Some d) = d ∷ []

unfoldable pub outs : Out → List Detail → Out
outs o [] = o
outs o (d ∷ ds) = outs (noted o d) ds

-- u is the table t after the rows were written from row n on, and maybe others behind them: of a reading that was
-- dropped, or is to be covered
abbrev pub Poured : ℕ → List Row → List ℕ → List ℕ → Type 0
Poured n rs t u = (xs : List Row) × (u ≡ pour_at n (rs ++ xs) t)

-- what was done for the answer a of a rule, where o was held and t was the table: u is the table now, r the code's
-- answer
abbrev pub Did : ℕ → Rows → Out → List ℕ → List ℕ → Reading Out → Type 0
Did base (To e ds) o t u r = (r ≡ Ok (e, (outs o ds))) × Poured o.rows (map (laid base) ds) t u
Did base Miss o t u r = (r ≡ Err Stop.Miss) × Poured o.rows [] t u
Did base (Hard k p) o t u r = r ≡ Err (Stop.Hard k p)

-- ---- what the code asks for, so that places and counts stay small

-- rows are counted up to here: twice the size limit, and one
abbrev pub row_limit : ℕ
row_limit = 2 * size_limit + 1

-- n rows more can be counted
abbrev pub Room : ℕ → Out → Type 0
Room n o = o.rows + n ≤ row_limit

-- an entry that starts within the size limit, and n rows more of it can be counted
abbrev pub Writable : ℕ → ℕ → Out → Type 0
Writable n base o = (base ≤ size_limit) × Room n o

-- an entry's text, which starts at `base` and is read up to a place in it: no more rows than bytes so far
abbrev pub Readable : ℕ → List ℕ → ℕ → Out → Type 0
Readable base s at o = (base ≤ size_limit) × (length s ≤ size_limit) × (at ≤ length s) × (o.rows ≤ at)
