-- Writing the row at the front of a table, from what the code knows.
use Rattle.text.specs.Refusals.{refused_with}
use Rattle.std.specs.Prelude.{Err, Ok}
use Prim.Native.Nat.{ℕ, ◌+◌, ◌≤◌, ◌<◌}
use native.Mathlib.Omega.{arith}
use mathlib.Core.Path.{◌≡◌, refl, sym, ◌∙◌, ap, subst}
use mathlib.Core.Bool.{Bool, true, false, cond}
use mathlib.Core.List.{List, ◌++◌}
use borrow.Author.Tests.{le-leb, lt-leb, leb-true}
use lib.Dec.{leb}
use lib.ListN.{length, take, length-append}
use lib.Seq.{sets, length-sets, length-take-le}
use Rattle.row.specs.declared.table.Row.{Row}
use Rattle.row.proofs.FieldLaws.{sets_append}
use Rattle.access.specs.Spans.{good_span, span_text}
use Rattle.bus.specs.Refusals.{not_valid, too_long}
use Rattle.amount.specs.Kinds.{first_detail}
use Rattle.bus.specs.Fields.{field, is_entry, row_field, text_place, longest, entry_tag, detail_tag, text_tag, head_width}
use Rattle.bus.specs.Writing.{row_of, text_of, fault, row_fields}
use Rattle.bus.specs.steps.Measuring.{measured_by, row_measured}
use Rattle.bus.specs.steps.Putting.{RowFits}
use Rattle.row.specs.Row.{width}
use Rattle.bus.proofs.FieldLaws.{length_field}
use Rattle.bus.proofs.FoundLaws.{entry_kind, detail_kind}

-- ---- what refuses a row

module _ (s : List ℕ) (r : Row) where
  fault_entry : is_entry r.kind ≡ true → fault s r ≡ 0
  unfolding fault
  fault_entry e = rw e

  fault_detail : is_entry r.kind ≡ false → fault s r ≡ cond (good_span s r.start r.end) (cond (leb (length (text_of s r)) longest) 0 too_long) not_valid
  unfolding fault
  fault_detail e = rw e

  -- a detail that nothing refuses has a text that a field can hold
  pub text_short : is_entry r.kind ≡ false → fault s r ≡ 0 → length (text_of s r) ≤ longest
  text_short e f = go (good_span s r.start r.end) (leb (length (text_of s r)) longest) refl (sym (fault_detail e) ∙ f)
    where
      go : (g l : Bool) → leb (length (text_of s r)) longest ≡ l → ◌≡◌ {A = ℕ} (cond g (cond l 0 too_long) not_valid) 0 → length (text_of s r) ≤ longest
      go true true q z = leb-true (length (text_of s r)) longest q
      go true false q z = absurd (omega arith)
      go false l q z = absurd (omega arith)

-- ---- the fields of the row at the front

module _ (s u : List ℕ) where
  pub fields_entry : is_entry (row_of u).kind ≡ true → row_fields s u ≡ field entry_tag (take width u)
  unfolding row_fields
  fields_entry e = rw e

  pub fields_detail : is_entry (row_of u).kind ≡ false → row_fields s u ≡ field detail_tag (take width u) ++ field text_tag (text_of s (row_of u))
  unfolding row_fields
  fields_detail e = rw e

pub row_whole : (u : List ℕ) → width ≤ length u → length (take width u) ≡ width
row_whole u h = length-take-le width u h

module _ (s u : List ℕ) (hu : width ≤ length u) where
  pub length_entry : is_entry (row_of u).kind ≡ true → length (row_fields s u) ≡ row_field
  length_entry e = rw (fields_entry s u e, length_field, row_whole u hu)

  pub length_detail : is_entry (row_of u).kind ≡ false → length (row_fields s u) ≡ text_place + length (text_of s (row_of u))
  length_detail e = rw (fields_detail s u e, length-append, length_field, length_field, row_whole u hu) (omega arith)

  pub row_wide : row_field ≤ length (row_fields s u)
  row_wide = go (is_entry (row_of u).kind) refl
    where
      go : (b : Bool) → is_entry (row_of u).kind ≡ b → row_field ≤ length (row_fields s u)
      go true e = omega (arith, length_entry e)
      go false e = omega (arith, length_detail e)

  -- r is the row that the code read
  module _ (r : Row) (er : r ≡ row_of u) where
    is_entry_lem : r.kind < first_detail → is_entry (row_of u).kind ≡ true
    is_entry_lem h = entry_kind (row_of u).kind (subst (λ (q : Row). q.kind < first_detail) er h)

    is_detail : first_detail ≤ r.kind → is_entry (row_of u).kind ≡ false
    is_detail h = detail_kind (row_of u).kind (subst (λ (q : Row). first_detail ≤ q.kind) er h)

    is_text : (c : List ℕ) → c ≡ span_text s r.start r.end → c ≡ text_of s (row_of u)
    unfolding text_of
    is_text c e = subst (λ (q : Row). c ≡ span_text s q.start q.end) er e

    is_good : (g : Bool) → g ≡ good_span s r.start r.end → g ≡ good_span s (row_of u).start (row_of u).end
    is_good g e = subst (λ (q : Row). g ≡ good_span s q.start q.end) er e

    pub measured_entry : r.kind < first_detail → Ok row_field ≡ row_measured s u
    unfolding row_measured measured_by
    measured_entry h = rw (fault_entry s (row_of u) (is_entry_lem h), length_entry (is_entry_lem h))

    module _ (h : first_detail ≤ r.kind) (g : Bool) (eg : g ≡ good_span s r.start r.end) where
      pub measured_bad : g ≡ false → Err (refused_with not_valid 0 0) ≡ row_measured s u
      unfolding row_measured measured_by
      measured_bad t = rw (fault_detail s (row_of u) (is_detail h), ← is_good g eg, t)

      module _ (t : g ≡ true) (c : List ℕ) (ec : c ≡ span_text s r.start r.end) where
        pub measured_long : longest < length c → Err (refused_with too_long 0 0) ≡ row_measured s u
        unfolding row_measured measured_by
        measured_long l =
            rw (fault_detail s (row_of u) (is_detail h), ← is_good g eg, t, ← is_text c ec, lt-leb (length c) longest l)

        pub measured_detail : length c ≤ longest → Ok (text_place + length c) ≡ row_measured s u
        unfolding row_measured measured_by
        measured_detail l =
            rw (length_detail (is_detail h), fault_detail s (row_of u) (is_detail h), ← is_good g eg, t, ← is_text c ec, le-leb (length c) longest l)

    -- ---- the row is put

    pub entry_place : r.kind < first_detail → (p at : ℕ) → p ≡ at + head_width + length (take width u) → p ≡ at + length (row_fields s u)
    entry_place h p at e = omega (arith, length_entry (is_entry_lem h), row_whole u hu)

    pub entry_put : r.kind < first_detail → (at : ℕ) (b v : List ℕ) → v ≡ sets b at (field entry_tag (take width u)) → v ≡ sets b at (row_fields s u)
    entry_put h at b v ev = ev ∙ ap (sets b at) (sym (fields_entry s u (is_entry_lem h)))

    module _ (h : first_detail ≤ r.kind) (c : List ℕ) (ec : c ≡ span_text s r.start r.end) (next at : ℕ) (en : next ≡ at + head_width + length (take width u)) where
      text_length : length c ≡ length (text_of s (row_of u))
      text_length = ap length (is_text c ec)

      pub text_room : (b v : List ℕ) → RowFits s u at (length b) → v ≡ sets b at (field detail_tag (take width u)) → (length c ≤ longest) × (next + head_width + length c ≤ length v)
      text_room b v f ev =
          let l = f.room in
          let k : length v ≡ length b = ap length ev ∙ length-sets b at (field detail_tag (take width u)) in
          (omega (arith, text_length, text_short s (row_of u) (is_detail h) f.sound), omega (arith, text_length, length_detail (is_detail h), row_whole u hu))

      pub detail_place : (p : ℕ) → p ≡ next + head_width + length c → p ≡ at + length (row_fields s u)
      detail_place p e = omega (arith, text_length, length_detail (is_detail h), row_whole u hu)

      pub detail_put : (b v w : List ℕ) → v ≡ sets b at (field detail_tag (take width u)) → w ≡ sets v next (field text_tag c) → w ≡ sets b at (row_fields s u)
      detail_put b v w ev ew =
          let i : next ≡ at + length (field detail_tag (take width u)) = omega (arith, length_field detail_tag (take width u)) in
          ew ∙ rw (ev, is_text c ec, i) (sym (sets_append (field detail_tag (take width u)) (field text_tag (text_of s (row_of u))) b at)) ∙ ap (sets b at) (sym (fields_detail s u (is_detail h)))

-- the row itself has room
pub row_room : (s u : List ℕ) (at n : ℕ) → RowFits s u at n → (length (take width u) ≤ longest) × (at + head_width + length (take width u) ≤ n)
row_room s u at n f = let l = f.room in let w = row_whole u f.there in (omega arith, omega (arith, row_wide s u f.there))

pub ruleset measured_laws = (measured_entry, measured_bad, measured_long, measured_detail)

pub ruleset row_laws = (row_room, entry_place, entry_put, text_room, detail_place, detail_put)
