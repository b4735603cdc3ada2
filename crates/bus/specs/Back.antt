-- Whatever is written reads back as the same rows and texts.
use Rattle.std.specs.Prelude.{ℕ, zero, suc, ◌≡◌, cond, List, [], ◌∷◌, length, take, drop, None, Some, Err, Ok}
use Rattle.row.specs.Row.{width}
use Rattle.bus.specs.declared.packet.Piece.{Piece}
use Rattle.bus.specs.Fields.{is_entry, longest}
use Rattle.bus.specs.Reading.{Step, found, row_in, text_in, handed}
use Rattle.bus.specs.Writing.{row_of, text_of, packet, written}

-- a row's bytes, and its text if it has one
pub record Item : Type 0 where
  pub row : List ℕ
  pub texts : List (List ℕ)

-- what reading a packet to its end hands out, or the number and place of its refusal
pub data Held : Type 0 where
  all : List Item → Held
  bad : ℕ → ℕ → Held

abbrev pub front : Item → Held → Held
front i (all is) = all (i ∷ is)
front i (bad n p) = bad n p

-- what an answer hands out, where r are the bytes left, and what is handed out from the next place on
abbrev pub further : (ℕ → Held) → List ℕ → Step → Held
further next r (Ok None) = all []
further next r (Err refused) = bad refused.number refused.place
further next r (Ok (Some (Piece.Entry, behind))) = front (record { row = row_in r; texts = [] }) (next behind)
further next r (Ok (Some (Piece.Detail n, behind))) =
    front (record { row = row_in r; texts = text_in n r ∷ [] }) (next behind)

-- a reader that stands at a place of the packet p, with room for each row and text, is asked again and again: so many
-- times at the most, after which it has not come to the end
unfoldable pub held_from : ℕ → List ℕ → ℕ → Held
held_from zero p at = bad 0 at
held_from (suc turns) p at = further (held_from turns p) (drop at p) (handed at width longest (found (drop at p)))

-- from the packet's start: each answer but the last takes a byte at least
abbrev pub held_in : List ℕ → Held
held_in p = held_from (suc (length p)) p 0

-- the row at the front of a table, with the text of a ledger s
unfoldable pub item_of : List ℕ → List ℕ → Item
item_of s u = record { row = take width u; texts = cond (is_entry (row_of u).kind) [] (text_of s (row_of u) ∷ []) }

-- n rows of a table
unfoldable pub items : List ℕ → ℕ → List ℕ → List Item
items s zero u = []
items s (suc n) u = item_of s u ∷ items s n (drop width u)

abbrev pub ReadsBack : Type 0
ReadsBack = (s t : List ℕ) (n room m : ℕ) → written s n t room ≡ Ok m → held_in (packet s n t) ≡ all (items s n t)
