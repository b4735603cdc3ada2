-- Two sorted lists in one, by their heads.
use Rattle.std.specs.Prelude.{ℕ, ◌-◌, Bool, true, false, cond, List, [], ◌∷◌, ltb}
use Rattle.order.specs.Order.{by}
use Rattle.order.specs.steps.Buffers.{said_in, record_at, records_from, joined}

unfoldable pub merge : {A : Type 0} → (A → A → Bool) → List A → List A → List A
merge le [] [] = []
merge le [] (y ∷ ys) = y ∷ ys
merge le (x ∷ xs) [] = x ∷ xs
merge le (x ∷ xs) (y ∷ ys) = cond (le x y) (x ∷ merge le xs (y ∷ ys)) (y ∷ merge le (x ∷ xs) ys)

-- whether record i comes next, where records i to m and j to n of a buffer are left
unfoldable pub left_first : List ℕ → List ℕ → ℕ → ℕ → ℕ → ℕ → Bool
left_first s t i m j n = cond (ltb i m) (cond (ltb j n) (by (said_in s) (record_at t i) (record_at t j)) true) false

-- the bytes of those records in one
unfoldable pub merging : List ℕ → List ℕ → ℕ → ℕ → ℕ → ℕ → List ℕ
merging s t i m j n = joined (merge (by (said_in s)) (records_from t i (m - i)) (records_from t j (n - j)))
