-- What a buffer of the postings' bytes comes to, sorted and listed, is what the postings themselves come to.
use Rattle.text.specs.declared.stop.Refused.{Refused}
use Rattle.text.specs.Refusals.{refused_with}
use Rattle.std.specs.Prelude.{Err, Ok, Result}
use Prim.Native.Nat.{ℕ, suc, ◌+◌, ◌*◌}
use native.Mathlib.Nat.{add-zero}
use native.Mathlib.Omega.{arith}
use mathlib.Core.Path.{◌≡◌, refl, sym, ap, ◌∙◌}
use mathlib.Core.Bool.{Bool, true, false, cond}
use mathlib.Core.List.{List, [], ◌∷◌, ◌++◌, map, map-map, append-nil}
use lib.Dec.{leb}
use lib.ListN.{length, drop, length-map}
use Rattle.row.specs.declared.table.Row.{Row}
use Rattle.row.specs.Work.{cleared}
use Rattle.row.specs.Row.{field_bytes, fields_in, bytes_of}
use Rattle.row.specs.steps.Holding.{Held}
use Rattle.row.proofs.PouredLaws.{length_bytes_of}
use Rattle.row.proofs.PourLaws.{length_field_bytes}
use Rattle.row.proofs.ReadBack.{fields_back}
use Rattle.order.specs.Records.{record_width, records_bytes}
use Rattle.order.specs.steps.Buffers.{record_room, said_in, records_of, joined, sorted_bytes}
use Rattle.order.specs.Order.{said}
use Rattle.order.specs.Groups.{Item, listed, items, is_known, counted}
use Rattle.order.proofs.RecordLaws.{Wide, records_joined}
use Rattle.order.proofs.HalfLaws.{records_sorted}
use Rattle.order.proofs.RunLaws.{place_in}
use Rattle.order.proofs.SaidLaws.{on_first, items_map, counted_map}
use Rattle.totals.specs.Totals.{item_row, Outcome, settled, answer_of, items_left, work_left}
use Rattle.totals.specs.steps.Listing.{head_row, item_row_in, placed, items_put}
use Rattle.totals.specs.steps.Months.{AllHeld}

-- ---- rows as records

rows_joined : (rs : List Row) → records_bytes rs ≡ joined (map field_bytes rs)
unfolding bytes_of joined
rows_joined [] = refl
rows_joined (r ∷ rs) = rw (rows_joined rs)

rows_wide : (rs : List Row) → Wide (map field_bytes rs)
rows_wide [] = tt
rows_wide (r ∷ rs) = (length_field_bytes r, rows_wide rs)

records_bytes_lem : (rs : List Row) → records_of (records_bytes rs) ≡ map field_bytes rs
records_bytes_lem rs =
    let n : record_room (records_bytes rs) ≡ length (map field_bytes rs) = rw (length_bytes_of record_width field_bytes length_field_bytes rs, length-map) (omega arith) in
    rw (n, rows_joined rs) (rw append-nil at (records_joined (map field_bytes rs) [] [] 0 (rows_wide rs) refl))

-- rows whose fields are held: their bytes give them back
row_back : (r : Row) → Held r → fields_in (field_bytes r) ≡ r
row_back r h = ap fields_in (sym (append-nil (field_bytes r))) ∙ fields_back r [] h

held_rows : (rs : List Row) → AllHeld rs → map fields_in (map field_bytes rs) ≡ rs
held_rows [] h = refl
held_rows (r ∷ rs) h = rw (row_back r h.0, held_rows rs h.1)

-- ---- the number of the items

pub counted_length : {A : Type 0} (place : A → ℕ) (k n : ℕ) (is : List (Item A)) → counted place k is ≡ Ok n → n ≡ k + length is
unfolding counted
counted_length place k n [] e = let f : k ≡ n = cc in rw add-zero (sym f)
counted_length place k n (i ∷ is) e = go (is_known i.sum) (place i.first) e (counted_length place (k + 1) n is)
  where
    go : (b : Bool) (c : ℕ) → cond b (counted place (k + 1) is) (Err (refused_with 6 c 0)) ≡ Ok n
        → (counted place (k + 1) is ≡ Ok n → n ≡ k + 1 + length is) → n ≡ k + suc (length is)
    go true c f ih = omega (arith, ih f)
    go false c f ih = absurd (let z : ◌≡◌ {A = ℕ} 0 1 = cc in omega arith)

-- ---- an outcome, by the count: the number that it tells is that of the items

module _ (used : ℕ) (is : List (Item Row)) where
  answer_settled : (room : ℕ) (c : Result ℕ Refused) → ((n : ℕ) → c ≡ Ok n → n ≡ length is) → answer_of (settled used room is c) ≡ placed c room
  unfolding settled answer_of placed
  answer_settled room (Ok k) h = go (leb (k * record_width) room)
    where
      go : (b : Bool) → answer_of (cond b (Outcome.gives used (map item_row is)) (Outcome.late used 9 0 (k * record_width))) ≡ cond b (Ok k) (Err (refused_with 9 0 (k * record_width)))
      go true = ap Ok (length-map is item_row ∙ sym (h k refl))
      go false = refl
  answer_settled room (Err x) h = refl

  items_settled : (t : List ℕ) (c : Result ℕ Refused) → ((n : ℕ) → c ≡ Ok n → n ≡ length is)
      → items_left (settled used (length t) is c) t ≡ items_put c (map item_row is) t
  unfolding settled items_left items_put
  items_settled t (Ok k) h = go (leb (k * record_width) (length t))
    where
      go : (b : Bool) → items_left (cond b (Outcome.gives used (map item_row is)) (Outcome.late used 9 0 (k * record_width))) t
          ≡ cond b (records_bytes (map item_row is) ++ drop (k * record_width) t) t
      go true = ap (λ (n : ℕ). records_bytes (map item_row is) ++ drop (n * record_width) t) (length-map is item_row ∙ sym (h k refl))
      go false = refl
  items_settled t (Err x) h = refl

  -- whatever was counted: a call that used the working spaces clears them
  pub work_settled : (room : ℕ) (c : Result ℕ Refused) (w : List ℕ) → work_left (settled used room is c) w ≡ cleared used w
  unfolding settled work_left
  work_settled room (Ok k) w = go (leb (k * record_width) room)
    where
      go : (b : Bool) → work_left (cond b (Outcome.gives used (map item_row is)) (Outcome.late used 9 0 (k * record_width))) w ≡ cleared used w
      go true = refl
      go false = refl
  work_settled room (Err x) w = refl

-- ---- the buffer b holds the bytes of the postings ps

module _ (s b : List ℕ) (ps : List Row) (e : b ≡ records_bytes ps) (h : AllHeld ps) where
  abbrev Found : List (Item (List ℕ))
  Found = listed (said_in s) (records_of (sorted_bytes s b))

  abbrev Wanted : List (Item Row)
  Wanted = items (said s) ps

  found_items : map (on_first fields_in) Found ≡ Wanted
  unfolding items
  found_items =
      rw (records_sorted s b, e, records_bytes_lem ps) (items_map (said s) fields_in (map field_bytes ps) ∙ ap (items (said s)) (held_rows ps h))

  found_count : counted place_in 0 Found ≡ counted (λ r. r.start) 0 Wanted
  found_count = counted_map (λ (r : Row). r.start) fields_in 0 Found ∙ ap (counted (λ (r : Row). r.start) 0) found_items

  found_rows : map item_row_in Found ≡ map item_row Wanted
  unfolding head_row on_first
  found_rows = sym (map-map item_row (on_first fields_in) Found) ∙ ap (map item_row) found_items

  number : (n : ℕ) → counted (λ r. r.start) 0 Wanted ≡ Ok n → n ≡ length Wanted
  number n f = counted_length (λ (r : Row). r.start) 0 n Wanted f ∙ omega arith

  module _ (used : ℕ) where
    pub found_answer : (room : ℕ) → answer_of (settled used room Wanted (counted (λ r. r.start) 0 Wanted)) ≡ placed (counted place_in 0 Found) room
    found_answer room =
        answer_settled used Wanted room (counted (λ (r : Row). r.start) 0 Wanted) number
        ∙ ap (λ (c : Result ℕ Refused). placed c room) (sym found_count)

    pub found_left : (t : List ℕ) → items_left (settled used (length t) Wanted (counted (λ r. r.start) 0 Wanted)) t
        ≡ items_put (counted place_in 0 Found) (map item_row_in Found) t
    found_left t = rw (found_count, found_rows) (items_settled used Wanted t (counted (λ (r : Row). r.start) 0 Wanted) number)
