-- The postings of rows: a row at a time, and of rows that hold none.
use Prim.Native.Nat.{ℕ, ◌≤◌, ◌<◌}
use native.Mathlib.Omega.{arith}
use mathlib.Core.Path.{◌≡◌, refl, sym, ◌∙◌, ap}
use mathlib.Core.Bool.{Bool, true, false, cond, ◌&&◌}
use mathlib.Core.List.{List, [], ◌∷◌, ◌++◌, map}
use borrow.Author.Tests.{lt-ltb, le-ltb, eq-eqb, ne_eqb}
use lib.Dec.{eqb, ltb}
use Rattle.amount.specs.declared.detail.Detail.{Detail}
use Rattle.amount.proofs.RowCounts.{any_kinds, posting_kind, Rising}
use Rattle.row.specs.declared.table.Row.{Row}
use Rattle.row.specs.Row.{row_of}
use Rattle.row.specs.steps.Writing.{laid}
use Rattle.posting.proofs.StepRows.{Others}
use Rattle.entry.specs.Forms.{Form}
use Rattle.text.specs.Answer.{To}
use Rattle.entry.specs.steps.Settled.{own_row, form_rows}
use Rattle.ledger.specs.steps.Scan.{with_line}
use Rattle.walk.specs.Postings.{stated, unstated, posting, postings_from}

module _ (wanted : ℕ → Bool) where
  -- ---- lines do not count

  posting_lines : (l : ℕ) (r : Row) (rs : List Row) → posting (with_line l r) (map (with_line l) rs) ≡ posting r rs
  unfolding posting stated unstated
  posting_lines l r [] = refl
  posting_lines l r (a ∷ rs) = refl

  pub lines_apart : (l : ℕ) (w : Bool) (rs : List Row) → postings_from wanted w (map (with_line l) rs) ≡ postings_from wanted w rs
  unfolding postings_from
  lines_apart l w [] = refl
  lines_apart l w (r ∷ rs) = rw (posting_lines l r rs, lines_apart l (cond (ltb r.kind 20) (eqb r.kind 6 && wanted r.p) w) rs)

  -- ---- a row of an entry, of a posting, and another

  pub entry_row : (w : Bool) (r : Row) (rs : List Row) → r.kind < 20 → postings_from wanted w (r ∷ rs) ≡ postings_from wanted (eqb r.kind 6 && wanted r.p) rs
  unfolding postings_from
  entry_row w r rs h = rw (lt-ltb r.kind 20 h, ne_eqb r.kind 33 (λ e. omega arith))

  pub posting_row : (r : Row) (rs : List Row) → r.kind ≡ posting_kind → postings_from wanted true (r ∷ rs) ≡ posting r rs ∷ postings_from wanted true rs
  unfolding postings_from
  posting_row r rs h = rw (le-ltb r.kind 20 (omega arith), eq-eqb r.kind 33 h)

  other_row : (w : Bool) (r : Row) (rs : List Row) → 20 ≤ r.kind → (r.kind ≡ posting_kind → ⊥) → postings_from wanted w (r ∷ rs) ≡ postings_from wanted w rs
  unfolding postings_from
  other_row w r rs h k = rw (le-ltb r.kind 20 h, ne_eqb r.kind 33 k)

  out_row : (r : Row) (rs : List Row) → 20 ≤ r.kind → postings_from wanted false (r ∷ rs) ≡ postings_from wanted false rs
  unfolding postings_from
  out_row r rs h = rw (le-ltb r.kind 20 h) (go (eqb r.kind 33))
    where
      go : (b : Bool) → cond (b && false) (posting r rs ∷ postings_from wanted false rs) (postings_from wanted false rs) ≡ postings_from wanted false rs
      go true = refl
      go false = refl

  -- ---- details of a text that starts at `base`

  laid_kind : (base : ℕ) (x : Detail) → (laid base x).kind ≡ x.kind
  unfolding laid row_of
  laid_kind base x = refl

  pub laid_others : (base : ℕ) (w : Bool) (ds : List Detail) (ys : List Row) → Others ds → postings_from wanted w (map (laid base) ds ++ ys) ≡ postings_from wanted w ys
  laid_others base w [] ys h = refl
  laid_others base w (x ∷ ds) ys h =
      other_row w (laid base x) (map (laid base) ds ++ ys) (omega (arith, laid_kind base x, h.0.0)) (λ e. h.0.2 (sym (laid_kind base x) ∙ e))
      ∙ laid_others base w ds ys h.1

  pub laid_posting : (base : ℕ) (x : Detail) (us : List Detail) (ys : List Row) → x.kind ≡ posting_kind → Others us
      → postings_from wanted true (map (laid base) (x ∷ us) ++ ys) ≡ posting (laid base x) (map (laid base) us ++ ys) ∷ postings_from wanted true ys
  laid_posting base x us ys h o =
      posting_row (laid base x) (map (laid base) us ++ ys) (laid_kind base x ∙ h)
      ∙ ap (λ (z : List Row). posting (laid base x) (map (laid base) us ++ ys) ∷ z) (laid_others base true us ys o)

  pub laid_out : (base : ℕ) (s : List ℕ) (k j : ℕ) (ds : List Detail) (ys : List Row) → Rising any_kinds s k j ds
      → postings_from wanted false (map (laid base) ds ++ ys) ≡ postings_from wanted false ys
  laid_out base s k j [] ys r = refl
  laid_out base s k j (x ∷ ds) ys r =
      out_row (laid base x) (map (laid base) ds ++ ys) (omega (arith, laid_kind base x, r.0)) ∙ laid_out base s x.start j ds ys r.2

  -- ---- an entry's own row, and rows that are none or start with one

  pub own_row_lem : (w : Bool) (at n : ℕ) (f : Form) (zs : List Row) → f.kind ≤ 13
      → postings_from wanted w (form_rows at (To n f) ++ zs) ≡ postings_from wanted (eqb f.kind 6 && wanted f.date) (map (laid at) f.details ++ zs)
  unfolding form_rows own_row row_of
  own_row_lem w at n f zs h = entry_row w _ (map (laid at) f.details ++ zs) (omega arith)

abbrev pub Starts : List Row → Type 0
Starts [] = Unit {0}
Starts (r ∷ rs) = r.kind < 20

pub fresh : (wanted : ℕ → Bool) (w v : Bool) (ys : List Row) → Starts ys → postings_from wanted w ys ≡ postings_from wanted v ys
unfolding postings_from
fresh wanted w v [] h = refl
fresh wanted w v (r ∷ rs) h = rw (lt-ltb r.kind 20 h)
