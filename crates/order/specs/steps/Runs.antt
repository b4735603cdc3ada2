-- Runs of records with the same key in a sorted buffer.
use Rattle.std.specs.Prelude.{ℕ, suc, ◌+◌, ◌-◌, Bool, cond, List, [], ◌∷◌}
use Rattle.order.specs.Order.{by}
use Rattle.order.specs.steps.Buffers.{said_in, record_at, records_from, record_room}
use Rattle.order.specs.Groups.{alike}

-- how many that are like x stand in front
unfoldable pub leading : {A : Type 0} → (A → A → Bool) → A → List A → ℕ
leading le x [] = 0
leading le x (y ∷ ys) = cond (alike le x y) (suc (leading le x ys)) 0

-- the number of the first record behind record i that is not like it
unfoldable pub run_end : List ℕ → List ℕ → ℕ → ℕ
run_end s t i = i + 1 + leading (by (said_in s)) (record_at t i) (records_from t (i + 1) (record_room t - (i + 1)))
