-- Things that say the same but for their values: how many they are, and the sum of their values.
use Rattle.text.specs.Refusals.{refused_with}
use Rattle.text.specs.declared.stop.Refused.{Refused}
use Rattle.decimal.specs.Faults.{Value}
use Rattle.std.specs.Prelude.{ℕ, ◌+◌, Bool, true, false, cond, ◌&&◌, not, List, [], ◌∷◌, map, length, Err, Ok, Result}
use Rattle.order.specs.Order.{Said, by}
use Rattle.order.specs.Sorted.{sorted}
use Rattle.order.specs.Sums.{summed}

-- those that pass a test, in their order
unfoldable pub those : {A : Type 0} → (A → Bool) → List A → List A
those p [] = []
those p (x ∷ xs) = cond (p x) (x ∷ those p xs) (those p xs)

-- two that may precede each other
unfoldable pub alike : {A : Type 0} → (A → A → Bool) → A → A → Bool
alike le x y = le x y && le y x

-- the first of each that are alike
unfoldable pub heads : {A : Type 0} → (A → A → Bool) → List A → List A
heads le [] = []
heads le (x ∷ xs) = x ∷ those (λ y. not (alike le x y)) (heads le xs)

-- an item: the first of those that are alike, their number and their sum
pub record Item (A : Type 0) : Type 0 where
  pub first : A
  pub count : ℕ
  pub sum : Value

-- by what f says of each
unfoldable pub item_of : {A : Type 0} → (A → Said) → List A → A → Item A
item_of f xs x =
    let same = those (alike (by f) x) xs in
    record { first = x; count = length same; sum = summed (map (λ y. (f y).value) same) }

-- an item for the first of each that are alike
unfoldable pub listed : {A : Type 0} → (A → Said) → List A → List (Item A)
listed f xs = map (item_of f xs) (heads (by f) xs)

-- the same in order
unfoldable pub items : {A : Type 0} → (A → Said) → List A → List (Item A)
items f xs = listed f (sorted (by f) xs)

unfoldable pub is_known : Value → Bool
is_known (Ok d) = true
is_known (Err n) = false

-- so many items, with k before them; or the place of the first whose sum is too large
unfoldable pub counted : {A : Type 0} → (A → ℕ) → ℕ → List (Item A) → Result ℕ Refused
counted place k [] = Ok k
counted place k (i ∷ is) = cond (is_known i.sum) (counted place (k + 1) is) (Err (refused_with 6 (place i.first) 0))

-- ---- an item as it is listed, spans aside

pub record Line : Type 0 where
  pub kind : ℕ
  pub account : List ℕ
  pub currency : List ℕ
  pub count : ℕ
  pub sum : Value

unfoldable pub line_of : {A : Type 0} → (A → Said) → Item A → Line
line_of f i =
    record {
      kind = (f i.first).kind;
      account = (f i.first).account;
      currency = (f i.first).currency;
      count = i.count;
      sum = i.sum;
    }
