-- Rows that pass a test, of lists side by side, and as their bytes say them.
use Prim.Native.Nat.{ℕ, ◌<◌}
use mathlib.Core.Path.{◌≡◌, refl, ◌∙◌, ap}
use mathlib.Core.Bool.{Bool, true, false, cond}
use mathlib.Core.List.{List, [], ◌∷◌, ◌++◌, map}
use Rattle.text.specs.Every.{Every}
use Rattle.row.specs.declared.table.Row.{Row}
use Rattle.row.specs.Field.{field_limit}
use Rattle.edit.specs.Edits.{such}
use Rattle.row.proofs.ReadBack.{wrapped}
use Rattle.row.proofs.ReadBack.{four_back}

pub such_append : (t : Row → Bool) (xs ys : List Row) → such t (xs ++ ys) ≡ such t xs ++ such t ys
unfolding such
such_append t [] ys = refl
such_append t (r ∷ xs) ys = go (t r) (such_append t xs ys)
  where
    go : (b : Bool) → such t (xs ++ ys) ≡ such t xs ++ such t ys → cond b (r ∷ such t (xs ++ ys)) (such t (xs ++ ys)) ≡ cond b (r ∷ such t xs) (such t xs) ++ such t ys
    go true h = ap (λ (z : List Row). r ∷ z) h
    go false h = h

pub such_all : (t : Row → Bool) (xs : List Row) → Every (λ r. t r ≡ true) xs → such t xs ≡ xs
unfolding such
such_all t [] h = refl
such_all t (r ∷ xs) (h, hs) = rw (h, such_all t xs hs)

pub such_none : (t : Row → Bool) (xs : List Row) → Every (λ r. t r ≡ false) xs → such t xs ≡ []
unfolding such
such_none t [] h = refl
such_none t (r ∷ xs) (h, hs) = rw (h, such_none t xs hs)

start_wrapped : (r : Row) → r.start < field_limit → (wrapped r).start ≡ r.start
unfolding wrapped
start_wrapped r h = four_back r.start h

-- a test of the start, which stands in the bytes as it is
pub such_wrapped : (t : ℕ → Bool) (xs : List Row) → Every (λ r. r.start < field_limit) xs
    → such (λ r. t r.start) (map wrapped xs) ≡ map wrapped (such (λ r. t r.start) xs)
unfolding such
such_wrapped t [] h = refl
such_wrapped t (r ∷ xs) (h, hs) =
    let A = such (λ r. t r.start) (map wrapped xs) in
    ap (λ (i : ℕ). cond (t i) (wrapped r ∷ A) A) (start_wrapped r h) ∙ go (t r.start) (such_wrapped t xs hs)
  where
    go : (b : Bool) → such (λ r. t r.start) (map wrapped xs) ≡ map wrapped (such (λ r. t r.start) xs) → cond b (wrapped r ∷ such (λ r. t r.start) (map wrapped xs)) (such (λ r. t r.start) (map wrapped xs)) ≡ map wrapped (cond b (r ∷ such (λ r. t r.start) xs) (such (λ r. t r.start) xs))
    go true h = ap (λ (z : List Row). wrapped r ∷ z) h
    go false h = h
