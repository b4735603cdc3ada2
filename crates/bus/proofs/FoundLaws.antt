-- What stands at the front of the bytes left, from what the code's tests gave.
use Prim.Native.Nat.{ℕ, ◌-◌, ◌≤◌, ◌<◌}
use native.Mathlib.Omega.{arith}
use mathlib.Core.Path.{◌≡◌, refl, sym, ◌∙◌, ap}
use mathlib.Core.Bool.{Bool, true, false, ◌&&◌}
use mathlib.Core.List.{List}
use borrow.Author.Tests.{ne_eqb, lt-ltb, le-ltb, eqb-true}
use lib.Dec.{eqb}
use lib.ListN.{length, get_or, take, drop}
use Rattle.text.proofs.TestLaws.{and_left}
use Rattle.row.specs.Field.{field_at}
use Rattle.std.specs.Prelude.{None, Some, Err, Ok, Result}
use Rattle.text.specs.declared.stop.Refused.{Refused}
use Rattle.text.specs.Refusals.{refused_with}
use Rattle.bus.specs.declared.packet.Piece.{Piece}
use Rattle.bus.specs.Refusals.{cut_short, wrong_field}
use Rattle.amount.specs.Kinds.{first_detail}
use Rattle.bus.specs.Fields.{is_entry, row_tag, stated, whole, row_field, entry_tag, detail_tag, text_tag, head_width}
use Rattle.bus.specs.Reading.{Found, field_fault, is_row, text_found, found}
use Rattle.row.specs.Row.{width}
use Rattle.text.proofs.Steps.{rest_of}
use Rattle.bus.proofs.FieldLaws.{whole_in}

pub entry_kind : (kind : ℕ) → kind < first_detail → is_entry kind ≡ true
unfolding is_entry
entry_kind kind h = lt-ltb kind first_detail h

pub detail_kind : (kind : ℕ) → first_detail ≤ kind → is_entry kind ≡ false
unfolding is_entry
detail_kind kind h = le-ltb kind first_detail h

-- ---- what is wrong with a field

module _ (w d : Bool) (place : ℕ) where
  pub fault_cut : (x : Refused) → w ≡ false → x ≡ refused_with cut_short place 0 → Err x ≡ field_fault w d place
  unfolding field_fault
  fault_cut x e q = rw (e, q)

  pub fault_wrong : (x : Refused) → w ≡ true → d ≡ false → x ≡ refused_with wrong_field place 0 → Err x ≡ field_fault w d place
  unfolding field_fault
  fault_wrong x e f q = rw (e, f, q)

  pub fault_none : w ≡ true → d ≡ true → Ok tt ≡ field_fault w d place
  unfolding field_fault
  fault_none e f = rw (e, f)

pub ruleset fault_laws = (fault_cut, fault_wrong, fault_none)

-- a field without a fault is whole, and what is due
pub sound : (w d : Bool) (place : ℕ) → field_fault w d place ≡ Ok tt → (w ≡ true) × (d ≡ true)
unfolding field_fault
sound true true place e = (refl, refl)
sound true false place e = cc
sound false d place e = cc

-- ---- the tag that is due

module _ (kind : ℕ) where
  pub tag_entry : kind < first_detail → (t : ℕ) → t ≡ entry_tag → t ≡ row_tag kind
  unfolding row_tag
  tag_entry h t e = e ∙ rw (entry_kind kind h)

  pub tag_detail : first_detail ≤ kind → (t : ℕ) → t ≡ detail_tag → t ≡ row_tag kind
  unfolding row_tag
  tag_detail h t e = e ∙ rw (detail_kind kind h)

pub ruleset tag_laws = (tag_entry, tag_detail)

pub row_due : (r : List ℕ) (kind n b tag due : ℕ)
    → kind ≡ field_at r head_width 4 → n ≡ stated r → b ≡ get_or r 0 0 → tag ≡ b → due ≡ row_tag kind → (eqb n width && eqb tag due) ≡ is_row r
unfolding is_row
row_due r kind n b tag due ek en eb et ed = rw (en, ed, ek, et, eb)

pub ruleset due_laws = (row_due)

-- ---- a text is due

module _ (r : List ℕ) (tag : ℕ) (w : Bool) (x : Result Unit Refused) (et : tag ≡ get_or r 0 0) (ew : w ≡ whole r)
    (ex : x ≡ field_fault w (eqb tag text_tag) row_field) where
  is_bad : field_fault (whole r) (eqb (get_or r 0 0) text_tag) row_field ≡ x
  is_bad = rw (← ew, ← et) (sym ex)

  pub text_there : x ≡ Ok tt → (n : ℕ) → n ≡ stated r → Ok (Some (Piece.Detail n)) ≡ text_found r
  unfolding text_found
  text_there z n e = rw (is_bad, z, e)

  pub text_bad : (e : Refused) → x ≡ Err e → Err e ≡ text_found r
  unfolding text_found
  text_bad e z = rw (is_bad, z)

pub ruleset text_laws = (text_there, text_bad)

-- ---- a row is due

pub row_in_lem : (r : List ℕ) → whole r ≡ true → is_row r ≡ true → row_field ≤ length r
unfolding is_row
row_in_lem r e f = omega (arith, whole_in r e, eqb-true (stated r) width (and_left (eqb (stated r) width) (eqb (get_or r 0 0) (row_tag (field_at r head_width 4))) f))

pub found_none : (r : List ℕ) → length r ≡ 0 → Ok None ≡ found r
unfolding found
found_none r h = rw h

module _ (r : List ℕ) (some : length r ≡ 0 → ⊥) (w d : Bool) (x : Result Unit Refused) (ew : w ≡ whole r) (ed : d ≡ is_row r) (ex : x ≡ field_fault w d 0) where
  is_fault : field_fault (whole r) (is_row r) 0 ≡ x
  is_fault = rw (← ew, ← ed) (sym ex)

  pub found_bad : (e : Refused) → x ≡ Err e → Err e ≡ found r
  unfolding found
  found_bad e z = rw (ne_eqb (length r) 0 some, is_fault, z)

  module _ (z : x ≡ Ok tt) where
    pub found_in : row_field ≤ length r
    found_in = let h = sound w d 0 (sym ex ∙ z) in row_in_lem r (sym ew ∙ h.0) (sym ed ∙ h.1)

    module _ (kind : ℕ) (ek : kind ≡ field_at r head_width 4) where
      pub found_entry : kind < first_detail → Ok (Some Piece.Entry) ≡ found r
      unfolding found
      found_entry l = rw (ne_eqb (length r) 0 some, is_fault, z, ← ek, entry_kind kind l)

      pub found_detail : first_detail ≤ kind → (f : Found) → f ≡ text_found (take (length r - row_field) (drop row_field r)) → f ≡ found r
      unfolding found
      found_detail l f e =
          e ∙ ap text_found (rest_of r row_field) ∙ rw (ne_eqb (length r) 0 some, is_fault, z, ← ek, detail_kind kind l)

pub ruleset found_laws = (found_none, found_bad, found_in, found_entry, found_detail)
