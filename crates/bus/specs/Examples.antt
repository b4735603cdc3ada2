-- Both sides of each edge of M-112: one list under one statement for writing and one for reading, by computation.
use Rattle.text.specs.Refusals.{refused_with}
use Rattle.text.specs.declared.stop.Refused.{Refused}
use Rattle.std.specs.Prelude.{ℕ, ◌+◌, ◌-◌, ◌*◌, ◌≡◌, refl, List, [], ◌∷◌, ◌++◌, map, length, replicate, Err, Ok, Result, None, Some}
use Rattle.row.specs.Field.{le}
use Rattle.row.specs.Row.{at_line, width}
use Rattle.access.specs.Spans.{good_span, span_text}
use Rattle.access.specs.Tables.{row_at}
use Rattle.bus.specs.declared.packet.Piece.{Piece}
use Rattle.bus.specs.Fields.{is_entry, row_tag, head, field, stated, whole}
use Rattle.bus.specs.Writing.{text_of, fault, row_fields, faults, packet, refusing, written, written_left}
use Rattle.bus.specs.Reading.{Step, field_fault, is_row, text_found, found, handed, step_at}

-- the bytes of a row: its kind, and a span from a to e
abbrev row : ℕ → ℕ → ℕ → List ℕ
row kind a e = le 4 kind ++ (le 4 a ++ (le 4 e ++ replicate (width - at_line) 0))

-- ---- writing: a ledger of three bytes, so many rows of a table, and a buffer for two of them and a text of two bytes

abbrev ledger : List ℕ
ledger = 97 ∷ 98 ∷ 99 ∷ []

abbrev size : ℕ
size = 2 * (3 + width) + 5

abbrev buffer : List ℕ
buffer = replicate size 7

abbrev Wrote : Type 0
Wrote = (ℕ × List ℕ) × (Result ℕ Refused × List ℕ)

-- what is written stands at the buffer's front, where n bytes are left as they were
abbrev writes : ℕ → List ℕ → List ℕ → ℕ → Wrote
writes k t p n = ((k, t), (Ok (length p), p ++ replicate n 7))

abbrev refuses : ℕ → List ℕ → ℕ → ℕ → Wrote
refuses k t number need = ((k, t), (Err (refused_with number 0 need), buffer))

-- no rows; an entry's row has no text, whatever its span; kind 19 is an entry's, 20 and 90 are details'; a length
-- stands highest first; a count over the table; a bad span, turned or past the end; row by row; a buffer one byte
-- short
unfoldable pub writing : List Wrote
writing =
    writes 0 [] [] size
    ∷ writes 1 (row 19 9 2) (1 ∷ 0 ∷ width ∷ row 19 9 2) (width + 8)
    ∷ writes 1 (row 20 1 3) (2 ∷ 0 ∷ width ∷ (row 20 1 3 ++ (3 ∷ 0 ∷ 2 ∷ 98 ∷ 99 ∷ []))) (width + 3)
    ∷ writes 1 (row 90 3 3) (2 ∷ 0 ∷ width ∷ (row 90 3 3 ++ (3 ∷ 0 ∷ 0 ∷ []))) (width + 5)
    ∷ refuses 1 (replicate (width - 1) 0) 10 0
    ∷ refuses 1 (row 20 2 1) 10 0
    ∷ refuses 1 (row 20 0 4) 10 0
    ∷ refuses 3 (row 1 0 3 ++ (row 20 0 3 ++ row 20 0 4)) 10 0
    ∷ refuses 2 (row 1 0 3 ++ row 20 0 3) 9 (size + 1)
    ∷ writes 2 (row 1 0 3 ++ row 20 0 2) (1 ∷ 0 ∷ width ∷ (row 1 0 3 ++ (2 ∷ 0 ∷ width ∷ (row 20 0 2 ++ (3 ∷ 0 ∷ 2 ∷ 97 ∷ 98 ∷ []))))) 0
    ∷ []

pub writing_holds : map (λ w. (written ledger w.0.0 w.0.1 size, written_left ledger w.0.0 w.0.1 buffer)) writing ≡ map (λ w. w.1) writing
unfolding writing written written_left refusing faults fault text_of row_fields packet field head is_entry row_at good_span span_text
writing_holds = refl

-- ---- reading: a packet, and a reader that stands at its second byte, with room for a row and for a text of two bytes

abbrev Read : Type 0
Read = List ℕ × Step

-- the fields of an entry's row and of a detail's
abbrev entry : List ℕ
entry = 1 ∷ 0 ∷ width ∷ row 1 0 0

abbrev detail : List ℕ
detail = 2 ∷ 0 ∷ width ∷ row 20 0 0

-- where the field behind that of a row starts
abbrev next : ℕ
next = 4 + width

abbrev hands : List ℕ → Step → Read
hands p x = (0 ∷ p, x)

abbrev refused : List ℕ → ℕ → ℕ → Read
refused p number place = (0 ∷ p, Err (refused_with number place 0))

-- the end; a row; a row and its text; a field cut short in its head or its content; a packet that ends where a text is
-- due; a tag that is unknown, not its kind's, or a text's where a row is due; a row length that is not a row's; a row
-- where a text is due; cut short goes before a wrong tag; a text over the room
unfoldable pub reading : List Read
reading =
    hands [] (Ok None)
    ∷ hands entry (Ok (Some (Piece.Entry, next)))
    ∷ hands (detail ++ (3 ∷ 0 ∷ 2 ∷ 97 ∷ 98 ∷ 1 ∷ [])) (Ok (Some (Piece.Detail 2, next + 5)))
    ∷ hands (detail ++ (3 ∷ 0 ∷ 0 ∷ [])) (Ok (Some (Piece.Detail 0, next + 3)))
    ∷ refused (1 ∷ 0 ∷ []) 19 1
    ∷ refused (1 ∷ 0 ∷ width ∷ replicate (width - 1) 0) 19 1
    ∷ refused detail 19 next
    ∷ refused (detail ++ (3 ∷ 0 ∷ 2 ∷ 97 ∷ [])) 19 next
    ∷ refused (7 ∷ 0 ∷ width ∷ row 1 0 0) 20 1
    ∷ refused (2 ∷ 0 ∷ width ∷ row 1 0 0) 20 1
    ∷ refused (1 ∷ 0 ∷ width ∷ row 20 0 0) 20 1
    ∷ refused (3 ∷ 0 ∷ 0 ∷ entry) 20 1
    ∷ refused (1 ∷ 0 ∷ (width - 1) ∷ row 1 0 0) 20 1
    ∷ refused (detail ++ entry) 20 next
    ∷ refused (7 ∷ 0 ∷ width ∷ []) 19 1
    ∷ refused (detail ++ (7 ∷ 0 ∷ 1 ∷ [])) 19 next
    ∷ hands (detail ++ (3 ∷ 0 ∷ 3 ∷ 97 ∷ 98 ∷ 99 ∷ [])) (Err (refused_with 9 0 3))
    ∷ []

pub reading_holds : map (λ r. step_at r.0 1 (replicate width 0) (replicate 2 0)) reading ≡ map (λ r. r.1) reading
unfolding reading handed found text_found field_fault is_row row_tag is_entry stated whole
reading_holds = refl
