-- What the definitions promise, for a reader. Proved in `proofs/ClaimsProved.antt`.
use Rattle.std.specs.Prelude.{ℕ, ◌≤◌, ◌≡◌, Bool}
use mathlib.Core.List.{List, map, Permᴰ}
use Rattle.decimal.specs.Exact.{limit, sized, twos_of}
use Rattle.order.specs.Order.{Said, by}
use Rattle.order.specs.Sorted.{sorted}
use Rattle.order.specs.Sums.{whole_from}
use Rattle.order.specs.Groups.{those, alike, items, line_of}

-- the order of records never changes a sum or a count: things that say the same, up to order, list the same lines
abbrev pub OrderCountsNothing : Type 1
OrderCountsNothing =
    (A B : Type 0) (f : A → Said) (g : B → Said) (xs : List A) (ys : List B) → Permᴰ (map f xs) (map g ys)
    → map (line_of f) (items f xs) ≡ map (line_of g) (items g ys)

-- those that are alike stay as they stood, so that the first of a key is the first that was given
abbrev pub FirstStays : Type 1
FirstStays = (A : Type 0) (f : A → Said) (x : A) (xs : List A) → those (alike (by f) x) (sorted (by f) xs) ≡ those (alike (by f) x) xs

-- a value within the limit is read back from its eight bytes
abbrev pub WholeBack : Type 0
WholeBack = (m : Bool) (n : ℕ) → n ≤ limit → whole_from (twos_of (sized m n)) ≡ sized m n
