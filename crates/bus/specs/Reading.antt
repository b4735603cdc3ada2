-- Reading a packet: what stands at the front of the bytes that are left, and what a reader hands out of it.
use Rattle.std.specs.Prelude.{ℕ, ◌+◌, Bool, cond, ◌&&◌, List, ◌++◌, ◌≡◌, eqb, leb, length, take, drop, None, Option, Some, Err, Ok, Result}
use Rattle.row.specs.Field.{field_at}
use Rattle.row.specs.Row.{width}
use Rattle.text.specs.declared.stop.Refused.{Refused}
use Rattle.text.specs.Refusals.{refused_with}
use Rattle.bus.specs.declared.packet.Piece.{Piece}
use Rattle.bus.specs.Refusals.{too_short, cut_short, wrong_field}
use Rattle.bus.specs.Fields.{text_tag, is_entry, row_tag, head_width, row_field, text_place, tag_in, stated, whole}

-- what stands at the front of some bytes, if anything does; or a refusal, placed by the bytes before its field
abbrev pub Found : Type 0
Found = Result (Option Piece) Refused

-- the answer of a reader: what it hands out, with the place behind that; nothing, at the end; or a refusal
abbrev pub Step : Type 0
Step = Result (Option (Piece × ℕ)) Refused

-- of a field at a place: 19 where it is cut short, then 20 where it is not what is due
unfoldable pub field_fault : Bool → Bool → ℕ → Result Unit Refused
field_fault is_whole isDue place =
    cond is_whole (cond isDue (Ok tt) (Err (refused_with wrong_field place 0))) (Err (refused_with cut_short place 0))

-- what is found behind a field, if nothing refuses that
abbrev pub behind_field : Result Unit Refused → Found → Found
behind_field (Ok u) f = f
behind_field (Err r) f = Err r

-- the kind in a row's field
abbrev pub kind_in : List ℕ → ℕ
kind_in r = field_at r head_width 4

-- a row is due: of a row's length, with the tag of its kind
unfoldable pub is_row : List ℕ → Bool
is_row r = eqb (stated r) width && eqb (tag_in r) (row_tag (kind_in r))

-- a text is due, behind its row
unfoldable pub text_found : List ℕ → Found
text_found r =
    behind_field (field_fault (whole r) (eqb (tag_in r) text_tag) row_field) (Ok (Some (Piece.Detail (stated r))))

-- what stands at the front: nothing, an entry's row, a detail's row with its text, or a refusal of a field
unfoldable pub found : List ℕ → Found
found r =
    cond (eqb (length r) 0) (Ok None)
    (behind_field (field_fault (whole r) (is_row r) 0)
    (cond (is_entry (kind_in r)) (Ok (Some Piece.Entry)) (text_found (drop row_field r))))

-- what is handed out: the row, and the text of n bytes
abbrev pub row_in : List ℕ → List ℕ
row_in r = take width (drop head_width r)

abbrev pub text_in : ℕ → List ℕ → List ℕ
text_in n r = take n (drop text_place r)

-- the answer of a reader that stands at a place, with so much room for a row and for a text: what it hands out,
-- with the place behind that; 19 and 20 at the start of their field; then 9 with the need, the row's buffer first
unfoldable pub handed : ℕ → ℕ → ℕ → Found → Step
handed at rowRoom textRoom (Ok None) = Ok None
handed at rowRoom textRoom (Err r) = Err (refused_with r.number (at + r.place) 0)
handed at rowRoom textRoom (Ok (Some Piece.Entry)) =
    cond (leb width rowRoom) (Ok (Some (Piece.Entry, at + row_field))) (Err (refused_with too_short 0 width))
handed at rowRoom textRoom (Ok (Some (Piece.Detail n))) =
    cond (leb width rowRoom)
    (cond (leb n textRoom) (Ok (Some (Piece.Detail n, at + text_place + n))) (Err (refused_with too_short 0 n)))
    (Err (refused_with too_short 0 width))

-- the row's buffer b afterwards, where r are the bytes left: a refusal leaves it as it was
unfoldable pub row_left : Step → List ℕ → List ℕ → List ℕ
row_left (Ok None) r b = b
row_left (Err refused) r b = b
row_left (Ok (Some (piece, next))) r b = row_in r ++ drop width b

-- the text's buffer afterwards
unfoldable pub text_left : Step → List ℕ → List ℕ → List ℕ
text_left (Ok None) r b = b
text_left (Err refused) r b = b
text_left (Ok (Some (Piece.Entry, next))) r b = b
text_left (Ok (Some (Piece.Detail n, next))) r b = text_in n r ++ drop n b

-- the step of a reader that stands at a place of the packet p and is lent a buffer b for the row and c for the text
abbrev pub step_at : List ℕ → ℕ → List ℕ → List ℕ → Step
step_at p at b c = handed at (length b) (length c) (found (drop at p))

-- what it promises: its answer x, and both buffers as they are afterwards
pub record Hands (p : List ℕ) (at : ℕ) (b c : List ℕ) (x : Step) (b' c' : List ℕ) : Type 0 where
  pub answer : x ≡ step_at p at b c
  pub row : b' ≡ row_left (step_at p at b c) (drop at p) b
  pub text : c' ≡ text_left (step_at p at b c) (drop at p) c

-- where it stands afterwards: behind what it handed out; a refusal does not move it
abbrev pub place_after : ℕ → Step → ℕ
place_after at (Ok (Some (piece, next))) = next
place_after at (Ok None) = at
place_after at (Err refused) = at
