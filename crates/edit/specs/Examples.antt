-- Both sides of each edge of M-109, as one list under one statement, by computation. New bytes that are read stand in
-- the examples of recovering reading.
use Rattle.std.specs.Prelude.{ℕ, ◌≡◌, refl, List, [], ◌∷◌, ◌++◌, map}
use Rattle.text.specs.Bytes.{bytes, is_digit, is_small}
use Rattle.row.specs.declared.table.Row.{Row}
use Rattle.row.specs.Row.{row_bytes, rows_bytes, row_in, rows_in, feeds, field_bytes, fields_in, bytes_of}
use Rattle.row.specs.Details.{spanned}
use Rattle.ledger.specs.Plain.{Reading, accepted, denied}
use Rattle.recovery.specs.Recovering.{block_length, recover_by}
use Rattle.recovery.specs.Demand3.{starts_tail, ends_line}
use Rattle.edit.specs.Edits.{is_block, is_new, shift, such, edit_rows, grows, editing}

abbrev row : ℕ → ℕ → ℕ → ℕ → ℕ → ℕ → Row
row k a e l p q = record { kind = k; start = a; end = e; line = l; p = p; q = q; bits = 0 }

-- three blocks of two bytes
abbrev ledger : List ℕ
ledger = bytes "1\n2\n3\n"

-- the rows that are given, how many of them, the block and its new bytes; what is answered
abbrev Case : Type 0
Case = List Row × ℕ × ℕ × ℕ × List ℕ × Reading

-- the second block is removed, so that the third moves two bytes and a line back
abbrev behind : Row → Row → Case
behind r u = (r ∷ [], 1, 2, 4, [], accepted (u ∷ []))

-- the three rows are given, and an edit is refused
abbrev refused : ℕ → ℕ → ℕ → List ℕ → Case
refused k a e y = (row 1 0 2 1 0 0 ∷ row 1 2 4 2 0 0 ∷ row 1 4 6 3 0 0 ∷ [], k, a, e, y, denied 10 0)

-- each block removed; rows behind the last one; rows that start in the block's middle and at its end; fewer rows than
-- the table has; the places of an amount, of a metadata row, of a refusal row; a date and a count, which are none;
-- places and lines below 0
abbrev edits : List Case
edits =
    (row 1 0 2 1 0 0 ∷ row 1 2 4 2 0 0 ∷ row 1 4 6 3 0 0 ∷ [], 3, 0, 2, [], accepted (row 1 0 2 1 0 0 ∷ row 1 2 4 2 0 0 ∷ []))
    ∷ (row 1 0 2 1 0 0 ∷ row 1 2 4 2 0 0 ∷ row 1 4 6 3 0 0 ∷ [], 3, 2, 4, [], accepted (row 1 0 2 1 0 0 ∷ row 1 2 4 2 0 0 ∷ []))
    ∷ (row 1 0 2 1 0 0 ∷ row 1 2 4 2 0 0 ∷ row 1 4 6 3 0 0 ∷ [], 3, 4, 6, [], accepted (row 1 0 2 1 0 0 ∷ row 1 2 4 2 0 0 ∷ []))
    ∷ (row 1 3 4 2 0 0 ∷ row 1 6 7 4 0 0 ∷ [], 2, 4, 6, [], accepted (row 1 3 4 2 0 0 ∷ []))
    ∷ (row 1 1 2 1 0 0 ∷ row 1 2 4 2 0 0 ∷ row 1 3 4 2 0 0 ∷ row 1 4 6 3 0 0 ∷ [], 4, 2, 4, [], accepted (row 1 1 2 1 0 0 ∷ row 1 2 4 2 0 0 ∷ []))
    ∷ (row 1 0 2 1 0 0 ∷ row 1 4 6 3 0 0 ∷ [], 1, 2, 4, [], accepted (row 1 0 2 1 0 0 ∷ []))
    ∷ behind (row 26 4 5 3 5 6) (row 26 2 3 2 3 4)
    ∷ behind (row 35 4 5 3 5 6) (row 35 2 3 2 3 4)
    ∷ behind (row 90 4 6 3 4 5) (row 90 2 4 2 4 3)
    ∷ behind (row 6 4 6 3 20240131 5) (row 6 2 4 2 20240131 5)
    ∷ behind (row 1 4 1 0 0 0) (row 1 2 4294967295 4294967295 0 0)
    ∷ []

-- a block that ends early or late, starts within a line, starts or ends behind the ledger, is turned; too many rows;
-- new bytes that start otherwise, that end without a line feed before another block
abbrev refusals : List Case
refusals =
    refused 3 2 3 []
    ∷ refused 3 2 6 []
    ∷ refused 3 1 2 []
    ∷ refused 3 6 6 []
    ∷ refused 3 4 7 []
    ∷ refused 3 4 2 []
    ∷ refused 4 2 4 []
    ∷ refused 3 2 4 (bytes ";\n")
    ∷ refused 3 4 6 (bytes ";\n")
    ∷ refused 3 0 2 (bytes ";")
    ∷ refused 3 2 4 (bytes "4")
    ∷ []

abbrev answered : Case → Reading
answered (rs, k, a, e, y, r) = editing ledger (rows_bytes rs) k a e y

abbrev listed : Case → Reading
listed (rs, k, a, e, y, r) = r

pub edits_hold : map answered (edits ++ refusals) ≡ map listed (edits ++ refusals)
unfolding editing grows is_block is_new edit_rows such shift rows_in row_in fields_in bytes_of row_bytes field_bytes feeds spanned block_length recover_by starts_tail ends_line bytes is_digit is_small
edits_hold = refl
