-- Records in a buffer: what they say, the buffer after some were written, and when they are sorted.
use Rattle.std.specs.Prelude.{ℕ, zero, suc, ◌*◌, ◌/◌, ◌≡◌, Bool, true, List, [], ◌∷◌, ◌++◌, length, take, drop}
use Rattle.row.specs.declared.table.Row.{Row}
use Rattle.row.specs.Row.{field_bytes, fields_in}
use Rattle.row.specs.steps.Pouring.{poured, poured_at}
use Rattle.order.specs.Order.{Said, said, by}
use Rattle.order.specs.Records.{record_width}
use Rattle.order.specs.Sorted.{sorted}

-- what a record's bytes say
abbrev pub said_in : List ℕ → List ℕ → Said
said_in s b = said s (fields_in b)

-- how many a buffer holds
abbrev pub record_room : List ℕ → ℕ
record_room t = length t / record_width

-- a buffer after they were written from its front, or from record n on
abbrev pub put_records : List Row → List ℕ → List ℕ
put_records rs t = poured record_width field_bytes rs t

abbrev pub put_records_at : ℕ → List Row → List ℕ → List ℕ
put_records_at n rs t = poured_at record_width field_bytes n rs t

-- each may precede those behind it
abbrev pub Leads : {A : Type 0} → (A → A → Bool) → A → List A → Type 0
Leads le x [] = Unit {0}
Leads le x (y ∷ ys) = (le x y ≡ true) × Leads le x ys

abbrev pub Ordered : {A : Type 0} → (A → A → Bool) → List A → Type 0
Ordered le [] = Unit {0}
Ordered le (x ∷ xs) = Leads le x xs × Ordered le xs

-- record i, the n records from record i on, and all of a buffer
abbrev pub record_at : List ℕ → ℕ → List ℕ
record_at t i = take record_width (drop (i * record_width) t)

unfoldable pub records_from : List ℕ → ℕ → ℕ → List (List ℕ)
records_from t i zero = []
records_from t i (suc n) = record_at t i ∷ records_from t (suc i) n

abbrev pub records_of : List ℕ → List (List ℕ)
records_of t = records_from t 0 (record_room t)

unfoldable pub joined : List (List ℕ) → List ℕ
joined [] = []
joined (r ∷ rs) = r ++ joined rs

-- every byte of a buffer afterwards: what is past the last whole record is as it was
unfoldable pub sorted_bytes : List ℕ → List ℕ → List ℕ
sorted_bytes s t = joined (sorted (by (said_in s)) (records_of t)) ++ drop (record_room t * record_width) t
