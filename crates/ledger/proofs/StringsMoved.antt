-- The strings of rows further on in a text are those of the rows in what is left of the text.
use Prim.Native.Nat.{ℕ, ◌+◌, ◌-◌}
use native.Mathlib.Omega.{arith}
use mathlib.Core.Path.{◌≡◌, refl, sym, ◌∙◌, ap}
use mathlib.Core.Bool.{Bool, true, false, cond}
use mathlib.Core.List.{List, [], ◌∷◌}
use borrow.Author.Tests.{eqb-true}
use lib.Dec.{eqb}
use lib.ListN.{drop}
use lib.Seq.{drop-drop}
use Rattle.text.specs.Bytes.{between}
use Rattle.row.specs.declared.table.Row.{Row}
use Rattle.row.specs.Details.{spanned}
use Rattle.posting.proofs.Agree.{spans_string}
use Rattle.entry.specs.Strings.{row_strings, strings}
use Rattle.entry.proofs.StringsLaws.{row_strings_lem}
use Rattle.ledger.specs.Plain.{move, moved}

between_moved : (t : List ℕ) (a lo hi : ℕ) → between t (a + lo) (a + hi) ≡ between (drop a t) lo hi
between_moved t a lo hi = let e : a + hi - (a + lo) ≡ hi - lo = omega arith in rw (e, drop-drop lo a t)

value_spanned : (k : ℕ) → eqb k 35 ≡ true → spanned k ≡ true
unfolding spanned
value_spanned k e = rw (eqb-true k 35 e)

row_moved : (t : List ℕ) (a l : ℕ) (r : Row) → row_strings t (move a l r) ≡ row_strings (drop a t) r
unfolding move
row_moved t a l r = row_strings_lem t (move a l r) ∙ go (spans_string r.kind) (eqb r.kind 35) refl ∙ sym (row_strings_lem (drop a t) r)
  where
    go : (b c : Bool) → eqb r.kind 35 ≡ c
        → cond b (between t (a + r.start) (a + r.end) ∷ []) (cond c (between t (cond (spanned r.kind) (a + r.p) r.p) (cond (spanned r.kind) (a + r.q) r.q) ∷ []) [])
        ≡ cond b (between (drop a t) r.start r.end ∷ []) (cond c (between (drop a t) r.p r.q ∷ []) [])
    go true c e = ap (λ x. x ∷ []) (between_moved t a r.start r.end)
    go false true e = rw (value_spanned r.kind e) (ap (λ x. x ∷ []) (between_moved t a r.p r.q))
    go false false e = refl

pub strings_moved : (t : List ℕ) (a l : ℕ) (rs : List Row) → strings t (moved a l rs) ≡ strings (drop a t) rs
unfolding strings move
strings_moved t a l [] = refl
strings_moved t a l (r ∷ rs) = rw (row_moved t a l r, drop-drop r.start a t, strings_moved t a l rs)
