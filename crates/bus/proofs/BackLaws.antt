-- What is written reads back.
use Rattle.text.specs.declared.stop.Refused.{Refused}
use Rattle.text.specs.Refusals.{refused_with}
use Rattle.std.specs.Prelude.{Some, Err, Ok, Result}
use Prim.Native.Nat.{ℕ, zero, suc, ◌+◌, ◌*◌, ◌-◌, ◌≤◌, ◌<◌}
use native.Mathlib.Omega.{arith}
use mathlib.Core.Path.{◌≡◌, refl, sym, ◌∙◌, ap}
use mathlib.Core.Bool.{Bool, true, false, cond}
use mathlib.Core.List.{List, [], ◌++◌, append_assoc}
use borrow.Author.Tests.{le-leb, leb-true, eq-eqb, ne_eqb, eqb-true}
use lib.Dec.{eqb, leb}
use lib.ListN.{length, take, drop, length-append, length-drop}
use lib.Seq.{take_at, drop_at, drop-drop, take-append-le, take-take}
use Rattle.text.proofs.TestLaws.{absurd_bool}
use Rattle.row.specs.Field.{field_at, un}
use Rattle.access.specs.Tables.{row_at}
use Rattle.bus.specs.declared.packet.Piece.{Piece}
use Rattle.bus.specs.Refusals.{not_valid}
use Rattle.bus.specs.Fields.{field, is_entry, row_tag, row_field, text_place, longest, entry_tag, detail_tag, text_tag, head_width}
use Rattle.bus.specs.Reading.{field_fault, is_row, row_in, text_in, text_found, found, handed}
use Rattle.bus.specs.Writing.{row_of, text_of, fault, row_fields, faults, packet, refusing, written}
use Rattle.bus.specs.Back.{all, front, held_from, item_of, items, ReadsBack}
use Rattle.row.specs.Row.{width, room}
use Rattle.bus.proofs.FieldLaws.{field_length, field_tag, field_content, field_behind, field_stated, field_whole}
use Rattle.bus.proofs.RowLaws.{text_short, fields_entry, fields_detail, row_whole, length_entry, length_detail, row_wide}

-- ---- a row's field at the front, and what stands behind it

module _ (u rest : List ℕ) (h : width ≤ length u) (tag : ℕ) where
  abbrev row : List ℕ
  row = take width u

  abbrev r : List ℕ
  r = field tag row ++ rest

  r_long : length r ≡ row_field + length rest
  r_long = omega (arith, field_length tag row rest, row_whole u h)

  kind_read : field_at r head_width 4 ≡ (row_of u).kind
  unfolding row_at
  kind_read =
      let k : (row_at u 0).kind ≡ un (take 4 u) = rw (le-leb 0 (length u) (omega arith), le-leb 4 (length u - 0) (omega arith)) in
      rw (
        le-leb head_width (length r) (omega (arith, r_long)),
        le-leb 4 (length r - head_width) (omega (arith, r_long)),
        field_content tag row rest,
        take-append-le 4 row rest (omega (arith, row_whole u h)),
        take-take 4 width u (omega arith),
      )
      (sym k)

  is_row_lem : tag ≡ row_tag (row_of u).kind → is_row r ≡ true
  unfolding is_row
  is_row_lem e =
      rw (
        field_stated tag row rest (omega (arith, row_whole u h)),
        row_whole u h,
        kind_read,
        field_tag tag row rest,
        eq-eqb tag (row_tag (row_of u).kind) e,
      )

  row_found_lem : tag ≡ row_tag (row_of u).kind → found r ≡ cond (is_entry (row_of u).kind) (Ok (Some Piece.Entry)) (text_found rest)
  unfolding found field_fault
  row_found_lem e =
      rw (
        ne_eqb (length r) 0 (λ z. omega (arith, r_long)),
        field_whole tag row rest (omega (arith, row_whole u h)),
        is_row_lem e,
        kind_read,
        field_behind tag row rest width (row_whole u h),
      )

  row_back : row_in r ≡ row
  row_back = rw (field_content tag row rest) (take_at row rest width (row_whole u h))

  behind_row : (n : ℕ) → drop (row_field + n) r ≡ drop n rest
  behind_row n = sym (drop-drop n row_field r) ∙ ap (drop n) (field_behind tag row rest width (row_whole u h))

-- ---- its text

module _ (c rest : List ℕ) (l : length c ≤ longest) where
  text_found_lem : text_found (field text_tag c ++ rest) ≡ Ok (Some (Piece.Detail (length c)))
  unfolding text_found field_fault
  text_found_lem = rw (field_whole text_tag c rest l, field_tag text_tag c rest, field_stated text_tag c rest l)

text_back : (u c rest : List ℕ) → width ≤ length u → text_in (length c) (field detail_tag (take width u) ++ (field text_tag c ++ rest)) ≡ c
text_back u c rest h = rw (behind_row u (field text_tag c ++ rest) h detail_tag head_width, field_content text_tag c rest) (take_at c rest (length c) refl)

-- ---- one row of a packet: p is the packet, and the reader stands at its fields

module _ (s p u rest : List ℕ) (f at : ℕ) (h : width ≤ length u) (here : drop at p ≡ row_fields s u ++ rest) where
  entry_on : is_entry (row_of u).kind ≡ true → held_from (suc f) p at ≡ front (item_of s u) (held_from f p (at + row_field))
  unfolding held_from handed item_of row_tag
  entry_on e =
      rw (
        here,
        fields_entry s u e,
        row_found_lem u rest h entry_tag (rw e),
        e,
        row_back u rest h entry_tag,
      )

  detail_on : is_entry (row_of u).kind ≡ false → length (text_of s (row_of u)) ≤ longest
      → held_from (suc f) p at ≡ front (item_of s u) (held_from f p (at + text_place + length (text_of s (row_of u))))
  unfolding held_from handed item_of row_tag
  detail_on e l =
      let c = text_of s (row_of u) in
      let behind = field text_tag c ++ rest in
      rw (
        here,
        fields_detail s u e,
        append_assoc (field detail_tag (take width u)) (field text_tag c) rest,
        row_found_lem u behind h detail_tag (rw e),
        e,
        text_found_lem c rest l,
        le-leb (length c) longest l,
        row_back u behind h detail_tag,
        text_back u c rest h,
      )

  row_on : fault s (row_of u) ≡ 0 → held_from (suc f) p at ≡ front (item_of s u) (held_from f p (at + length (row_fields s u)))
  row_on z = go (is_entry (row_of u).kind) refl
    where
      go : (b : Bool) → is_entry (row_of u).kind ≡ b → held_from (suc f) p at ≡ front (item_of s u) (held_from f p (at + length (row_fields s u)))
      go true e = entry_on e ∙ ap (λ (n : ℕ). front (item_of s u) (held_from f p (at + n))) (sym (length_entry s u h e))
      go false e =
          let k : at + text_place + length (text_of s (row_of u)) ≡ at + length (row_fields s u) = omega (arith, length_detail s u h e) in
          detail_on e (text_short s (row_of u) e z) ∙ ap (λ (n : ℕ). front (item_of s u) (held_from f p n)) k

  next_here : drop (at + length (row_fields s u)) p ≡ rest
  next_here =
      let n = length (row_fields s u) in
      sym (drop-drop n at p) ∙ ap (drop n) here ∙ drop_at (row_fields s u) rest n refl

-- ---- row by row

held_end : (p : List ℕ) (f at : ℕ) → drop at p ≡ [] → held_from (suc f) p at ≡ all []
unfolding held_from found handed
held_end p f at e = rw e

first_sound : (s : List ℕ) (n : ℕ) (u : List ℕ) → faults s (suc n) u ≡ 0 → (fault s (row_of u) ≡ 0) × (faults s n (drop width u) ≡ 0)
unfolding faults
first_sound s n u z = go (eqb (fault s (row_of u)) 0) refl z
  where
    go : (b : Bool) → eqb (fault s (row_of u)) 0 ≡ b → cond b (faults s n (drop width u)) (fault s (row_of u)) ≡ 0 → (fault s (row_of u) ≡ 0) × (faults s n (drop width u) ≡ 0)
    go true q e = (eqb-true (fault s (row_of u)) 0 q, e)
    go false q e = absurd_bool (sym q ∙ eq-eqb (fault s (row_of u)) 0 e)

-- each row takes one turn, and the end one more
pub all_back : (s p : List ℕ) (n f at : ℕ) (u : List ℕ) → drop at p ≡ packet s n u → n * width ≤ length u → faults s n u ≡ 0 → n < f
    → held_from f p at ≡ all (items s n u)
unfolding packet items
all_back s p zero zero at u e h z k = absurd (omega arith)
all_back s p zero (suc f) at u e h z k = held_end p f at e
all_back s p (suc n) zero at u e h z k = absurd (omega arith)
all_back s p (suc n) (suc f) at u e h z k =
    let rest = packet s n (drop width u) in
    let w = first_sound s n u z in
    row_on s p u rest f at (omega arith) e w.0
    ∙ ap (front (item_of s u)) (all_back s p n f (at + length (row_fields s u)) (drop width u) (next_here s p u rest f at (omega arith) e) (rw length-drop (omega arith)) w.1 (omega arith))

-- a packet has a byte at least for each row
packet_long : (s : List ℕ) (n : ℕ) (u : List ℕ) → n * width ≤ length u → n ≤ length (packet s n u)
unfolding packet
packet_long s zero u h = omega arith
packet_long s (suc n) u h =
    let k = packet_long s n (drop width u) (rw length-drop (omega arith)) in
    rw length-append (omega (arith, row_wide s u (omega arith)))

-- what is written is refused by nothing
accepted : (s t : List ℕ) (n room m : ℕ) → written s n t room ≡ Ok m → refusing s n t ≡ 0
unfolding written
accepted s t n room m e = go (eqb (refusing s n t) 0) refl _ e
  where
    go : (b : Bool) → eqb (refusing s n t) 0 ≡ b → (w : Result ℕ Refused) → cond b w (Err (refused_with (refusing s n t) 0 0)) ≡ Ok m → refusing s n t ≡ 0
    go true q w e = eqb-true (refusing s n t) 0 q
    go false q w e = absurd (let z : ◌≡◌ {A = ℕ} 0 1 = cc in omega arith)

sound_rows : (s t : List ℕ) (n : ℕ) → refusing s n t ≡ 0 → (n ≤ room t) × (faults s n t ≡ 0)
unfolding refusing
sound_rows s t n e = go (leb n (room t)) refl e
  where
    go : (b : Bool) → leb n (room t) ≡ b → cond b (faults s n t) not_valid ≡ 0 → (n ≤ room t) × (faults s n t ≡ 0)
    go true q e = (leb-true n (room t) q, e)
    go false q e = absurd (omega arith)

pub reads_back : ReadsBack
reads_back s t n room m e =
    let w = sound_rows s t n (accepted s t n room m e) in
    let h : n * width ≤ length t = omega (arith, w.0) in
    all_back s (packet s n t) n (suc (length (packet s n t))) 0 t refl h w.1 (omega (arith, packet_long s n t h))
