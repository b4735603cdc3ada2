-- Rows of a table: one by its number, and whether a tag is in force.
use Rattle.text.specs.Refusals.{refused_with}
use Rattle.text.specs.declared.stop.Refused.{Refused}
use Rattle.std.specs.Prelude.{ℕ, zero, suc, ◌+◌, ◌-◌, ◌*◌, Bool, true, false, cond, ◌&&◌, ◌||◌, List, [], ◌∷◌, eqb, ltb, leb, Err, Ok, Result, None, Option, Some}
use Rattle.row.specs.declared.table.Row.{Row}
use Rattle.row.specs.Field.{field_at}
use Rattle.row.specs.Row.{at_kind, at_start, at_end, at_line, at_p, at_q, at_value, width, room}
use Rattle.access.specs.Spans.{good_span, span_text}
use Rattle.amount.specs.Kinds.{pushtag_kind, poptag_kind, tag_kind}

-- the row with a number: each field from its bytes
unfoldable pub row_at : List ℕ → ℕ → Row
row_at t k =
    record {
      kind = field_at t (k * width + at_kind) 4;
      start = field_at t (k * width + at_start) 4;
      end = field_at t (k * width + at_end) 4;
      line = field_at t (k * width + at_line) 4;
      p = field_at t (k * width + at_p) 4;
      q = field_at t (k * width + at_q) 4;
      bits = field_at t (k * width + at_value) 8;
    }

-- a number that is not below the room is refused, 10
unfoldable pub row_found : List ℕ → ℕ → Result Row Refused
row_found t k = cond (ltb k (room t)) (Ok (row_at t k)) (Err (refused_with 10 0 0))

-- the same bytes
unfoldable pub same : List ℕ → List ℕ → Bool
same [] [] = true
same [] (c ∷ y) = false
same (b ∷ x) [] = false
same (b ∷ x) (c ∷ y) = eqb b c && same x y

-- whether row j is a 4 or 5 whose next row is a 23 of those bytes; a bad span is passed over
unfoldable pub names : List ℕ → List ℕ → List ℕ → ℕ → Bool
names s t tag j =
    let k = (row_at t j).kind in
    let next = row_at t (j + 1) in
    (eqb k pushtag_kind || eqb k poptag_kind) && (eqb next.kind tag_kind && (good_span s next.start next.end && same (span_text s next.start next.end) tag))

-- the kind of the last of the first n rows that does
unfoldable pub last_named : List ℕ → List ℕ → List ℕ → ℕ → Option ℕ
last_named s t tag zero = None
last_named s t tag (suc n) = cond (names s t tag n) (Some (row_at t n).kind) (last_named s t tag n)

-- whether that is a 4
unfoldable pub pushes : Option ℕ → Bool
pushes (Some k) = eqb k pushtag_kind
pushes None = false

-- after the first k rows: yes if the last of the rows that do, whose next row is also among the k, is a 4; k over the
-- room is 10
unfoldable pub in_force : List ℕ → List ℕ → ℕ → List ℕ → Result Bool Refused
in_force s t k tag = cond (leb k (room t)) (Ok (pushes (last_named s t tag (k - 1)))) (Err (refused_with 10 0 0))
