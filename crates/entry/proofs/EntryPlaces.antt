-- An entry's refusal has a number of its list, and its place stands within the entry's text.
use Rattle.text.specs.declared.stop.Cause.{Cause}
use Rattle.std.specs.Prelude.{Err, Ok}
use Rattle.decimal.specs.Faults.{Value, number_of}
use Prim.Native.Nat.{ℕ, ◌≤◌}
use native.Mathlib.Omega.{arith}
use mathlib.Core.Path.{◌≡◌, refl, subst, sym}
use mathlib.Core.Bool.{Bool, true, false, cond}
use mathlib.Core.Logic.{inl, inr}
use mathlib.Core.List.{List, [], ◌∷◌}
use borrow.Author.Tests.{eqb-true}
use lib.Dec.{eqb}
use lib.ListN.{length}
use Rattle.text.specs.Every.{OneOf}
use Rattle.text.specs.Refusals.{cause_number}
use Rattle.text.specs.Answer.{Ans, To, Miss, Hard}
use Rattle.text.proofs.Joins.{Reach}
use Rattle.amount.specs.declared.detail.Detail.{Detail}
use Rattle.amount.specs.Kinds.{number_meta_kind}
use Rattle.amount.proofs.ValueSizes.{value_numbers, Small}
use Rattle.amount.proofs.RowCounts.{any_kinds, Second, unset, within, day, flagged, Rising}
use Rattle.row.specs.declared.table.Row.{Row}
use Rattle.row.specs.Details.{value_place}
use Rattle.entry.specs.Forms.{Form, form_of}
use Rattle.entry.specs.Entry.{hard_place, got, refuse, judged, settled, entry_of}
use Rattle.entry.proofs.EntryEnds.{form_reach}
use Rattle.entry.proofs.EntryTold.{form_placed}
use Rattle.entry.proofs.EntryLines.{rising_le}

-- ---- a value that is refused

-- p of a number among metadata is a place
number_place : (s : List ℕ) (d : Detail) → d.kind ≡ number_meta_kind → Second s d → d.p ≤ length s
number_place s d k (unset e) = omega (arith, e)
number_place s d k (within n h) = h
number_place s d k (day e h) = absurd (omega (arith, k, e))
number_place s d k (flagged e i h) = absurd (omega (arith, k, e))

value_within : (s : List ℕ) (d : Detail) → d.start ≤ length s → Second s d → value_place d ≤ length s
unfolding value_place
value_within s d h f = on (eqb d.kind number_meta_kind) refl
  where
    on : (b : Bool) → eqb d.kind number_meta_kind ≡ b → cond b d.p d.start ≤ length s
    on true e = number_place s d (eqb-true d.kind number_meta_kind e) f
    on false e = h

-- ---- the numbers

abbrev pub entry_numbers : List ℕ
entry_numbers = 3 ∷ 4 ∷ 5 ∷ value_numbers

-- ---- the entry

-- refused by one of the numbers, at a place of the text
abbrev Met : List ℕ → List ℕ → ℕ → ℕ → Type 0
Met numbers s k p = OneOf numbers k × (p ≤ length s)

module _ (s : List ℕ) (k p : ℕ) where
  judged_met : (i j : ℕ) (ds : List Detail) (m : ℕ) (rs : List Row) → j ≤ length s → Rising any_kinds s i j ds → judged ds (got m rs) ≡ refuse k p
      → Met value_numbers s k p
  unfolding judged
  judged_met i j [] m rs h r e = absurd (let z : ◌≡◌ {A = ℕ} 0 1 = cc in omega arith)
  judged_met i j (d ∷ ds) m rs h r e =
      on d.value refl r.1.small (value_within s d (omega (arith, rising_le s d.start j ds r.2)) r.1.second) (judged_met d.start j ds m rs h r.2)
    where
      on : (v : Value) → d.value ≡ v → Small d.value → value_place d ≤ length s → (judged ds (got m rs) ≡ refuse k p → Met value_numbers s k p) → Met value_numbers s k p
      on (Ok x) q t u f = f (rw q at e)
      on (Err n) q t u f =
          let w : refuse (number_of n) (value_place d) ≡ refuse k p = rw q at e in
          let y : number_of n ≡ k = cc in
          let z : value_place d ≡ p = cc in
          (subst (OneOf value_numbers) y (subst Small q t).holds, omega arith)

  hard_number : (cause : Cause) → OneOf entry_numbers (cause_number cause)
  hard_number Cause.TooDeep = inl refl
  hard_number Cause.Missing = inr (inl refl)
  hard_number Cause.MissingGap = inr (inl refl)
  hard_number Cause.MissingPart = inr (inl refl)

  hard_within : (cause : Cause) (j : ℕ) → j ≤ length s → hard_place cause j ≤ length s
  unfolding hard_place
  hard_within Cause.TooDeep j h = h
  hard_within Cause.Missing j h = omega arith
  hard_within Cause.MissingGap j h = omega arith
  hard_within Cause.MissingPart j h = omega arith

  entry_met : entry_of s ≡ refuse k p → Met entry_numbers s k p
  unfolding entry_of settled
  entry_met e = on (form_of s) refl e
    where
      on : (a : Ans Form) → form_of s ≡ a → settled s a ≡ refuse k p → Met entry_numbers s k p
      on (To m f) q e =
          let w = judged_met 1 m f.details m _ (subst (Reach (length s) 1) q (form_reach s)).ends.1 (form_placed s m f q).0 e in (inr (inr (inr w.0)), w.1)
      on Miss q e =
          let y : k ≡ 5 = cc in
          let z : ◌≡◌ {A = ℕ} 0 p = cc in
          (inr (inr (inl y)), omega arith)
      on (Hard cause j) q e =
          let r = (subst (Reach (length s) 1) q (form_reach s)).ends in
          let y : cause_number cause ≡ k = cc in
          let z : hard_place cause j ≡ p = cc in
          (subst (OneOf entry_numbers) y (hard_number cause), omega (arith, z, hard_within cause j r.0))

  pub entry_number : entry_of s ≡ refuse k p → OneOf entry_numbers k
  entry_number e = (entry_met e).0

  pub entry_place : entry_of s ≡ refuse k p → p ≤ length s
  entry_place e = (entry_met e).1
