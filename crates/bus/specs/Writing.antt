-- Writing a packet from the first rows of a table: each row as a field, each detail row followed by the text of its
-- span.
use Rattle.text.specs.Refusals.{refused_with}
use Rattle.text.specs.declared.stop.Refused.{Refused}
use Rattle.std.specs.Prelude.{ℕ, zero, suc, min, cond, List, [], ◌++◌, eqb, leb, length, take, drop, Err, Ok, Result}
use Rattle.decimal.specs.Exact.{largest}
use Rattle.row.specs.declared.table.Row.{Row}
use Rattle.row.specs.Row.{width, room}
use Rattle.access.specs.Spans.{good_span, span_text}
use Rattle.access.specs.Tables.{row_at}
use Rattle.bus.specs.Refusals.{too_short, not_valid, too_long}
use Rattle.bus.specs.Fields.{entry_tag, detail_tag, text_tag, is_entry, field, longest}

-- the row at the front of a table
abbrev pub row_of : List ℕ → Row
row_of u = row_at u 0

-- the text of a row's span
unfoldable pub text_of : List ℕ → Row → List ℕ
text_of s r = span_text s r.start r.end

-- what refuses a row: 10 for a bad detail span, then 18 for a text over 65,535 bytes; or 0
unfoldable pub fault : List ℕ → Row → ℕ
fault s r =
    cond (is_entry r.kind) 0
    (cond (good_span s r.start r.end) (cond (leb (length (text_of s r)) longest) 0 too_long) not_valid)

-- the fields of the row at the front
unfoldable pub row_fields : List ℕ → List ℕ → List ℕ
row_fields s u =
    let row = take width u in
    cond (is_entry (row_of u).kind) (field entry_tag row) (field detail_tag row ++ field text_tag (text_of s (row_of u)))

-- of n rows, row by row: the first that refuses, or 0; and their fields
unfoldable pub faults : List ℕ → ℕ → List ℕ → ℕ
faults s zero u = 0
faults s (suc n) u = cond (eqb (fault s (row_of u)) 0) (faults s n (drop width u)) (fault s (row_of u))

unfoldable pub packet : List ℕ → ℕ → List ℕ → List ℕ
packet s zero u = []
packet s (suc n) u = row_fields s u ++ packet s n (drop width u)

-- 10 for a row count over the table, before any row is looked at
unfoldable pub refusing : List ℕ → ℕ → List ℕ → ℕ
refusing s n t = cond (leb n (room t)) (faults s n t) not_valid

-- the answer, of a buffer with so much room: 9, with the need, comes last
unfoldable pub written : List ℕ → ℕ → List ℕ → ℕ → Result ℕ Refused
written s n t room =
    let m = length (packet s n t) in
    cond (eqb (refusing s n t) 0)
    (cond (leb m room) (Ok m) (Err (refused_with too_short 0 (min m largest))))
    (Err (refused_with (refusing s n t) 0 0))

-- every byte of the buffer afterwards: a refusal leaves it as it was
unfoldable pub written_left : List ℕ → ℕ → List ℕ → List ℕ → List ℕ
written_left s n t b =
    let p = packet s n t in
    cond (eqb (refusing s n t) 0) (cond (leb (length p) (length b)) (p ++ drop (length p) b) b) b
