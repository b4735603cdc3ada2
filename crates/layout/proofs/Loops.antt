-- What a loop read: its turns' items, and that it ended at a miss.
use Prim.Native.Nat.{ℕ, zero, suc, ◌+◌, ◌≤◌, ◌<◌}
use native.Mathlib.Omega.{arith}
use mathlib.Core.Path.{◌≡◌, sym, ◌∙◌, ap, subst}
use mathlib.Core.List.{List, [], ◌++◌}
use mathlib.Core.Logic.{◌⊎◌, inl, inr}
use lib.ListN.{length}
use Rattle.text.specs.Answer.{To, Miss, ◌and◌, many}
use Rattle.text.proofs.Joins.{Reach}
use Rattle.text.proofs.Ats.{At}
use Rattle.text.proofs.Inversions.{and_inv, maybe_inv}
use Rattle.text.specs.Every.{Every}
use Rattle.text.proofs.EveryLaws.{every_left, every_right}
use Rattle.amount.specs.Details.{Rows}
use Rattle.amount.specs.declared.detail.Detail.{Detail}
use Rattle.layout.specs.Meaning.{Item}
use Rattle.layout.proofs.Readings.{items, items_append, Fine, There}
use Rattle.layout.proofs.Misses.{first_misses, no_miss}

-- H holds of each turn's items, G of all; P is what is known of a place where a turn starts
module _ (s : List ℕ) (f : ℕ → Rows) (P : ℕ → Type 0) (H G : List Item → Type 0) (R : (i : ℕ) → i ≤ length s → Reach (length s) (i + 1) (f i))
    (step : (i j : ℕ) (t : List ℕ) (rs : List Detail) → P i → At s i t → f i ≡ To j rs → Every Fine rs → There s j rs H × P j) (none : G [])
    (join : (ms ns : List Item) → H ms → G ns → G (ms ++ ns)) where
  pub many_was : (d i j : ℕ) (t : List ℕ) (rs : List Detail) → P i → At s i t → length s < i + d → many f d i ≡ To j rs → Every Fine rs → There s j rs G × (f j ≡ Miss) × P j
  unfolding many
  many_was zero i j t rs p A l h g = absurd (omega (arith, A.fits))
  many_was (suc d) i j t rs p A l h g = go (maybe_inv i (f i and many f d) j rs h) (λ k u zs q B m e y. many_was d k j u zs q B m e y)
    where
      go : ((f i and many f d) ≡ To j rs) ⊎ (((f i and many f d) ≡ Miss) × (j ≡ i) × (rs ≡ []))
          → ((k : ℕ) (u : List ℕ) (zs : List Detail) → P k → At s k u → length s < k + d → many f d k ≡ To j zs → Every Fine zs → There s j zs G × (f j ≡ Miss) × P j)
          → There s j rs G × (f j ≡ Miss) × P j
      go (inr h) ih =
          let m = first_misses (f i) (many f d) (no_miss f d) h.0 in
          (record { rest = t; place = subst (λ z. At s z t) (sym h.1) A; is = subst (λ z. G (items s z)) (sym h.2) none }, ap f h.1 ∙ m, subst P (sym h.1) p)
      go (inl h) ih =
          let a = and_inv (f i) (many f d) j rs h in
          let y = subst (Every Fine) a.5 g in
          let T = step i a.0 t a.1 p A a.3 (every_left Fine a.1 a.2 y) in
          let r = (subst (Reach (length s) (i + 1)) a.3 (R i (omega (arith, A.fits)))).ends in
          let U = ih a.0 T.0.rest a.2 T.1 T.0.place (omega arith) a.4 (every_right Fine a.1 a.2 y) in (
            record {
              rest = U.0.rest;
              place = U.0.place;
              is = subst G (sym (ap (items s) a.5 ∙ items_append s a.1 a.2))
                  (join (items s a.1) (items s a.2) T.0.is U.0.is);
            },
            U.1,
            U.2,
          )
