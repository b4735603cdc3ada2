-- What strict reading promises, said of plain reading and of `objection`, the judgement of one row (`Strict.antt`).
use Rattle.std.specs.Prelude.{ℕ, ◌≤◌, ◌≡◌, ◌⊎◌, List, [], ◌∷◌, ◌++◌}
use Rattle.row.specs.declared.table.Row.{Row}
use Rattle.ledger.specs.Plain.{accepted, denied, plain}
use Rattle.ledger.specs.Strict.{lost_line_number, flag_number, objection, strict}

-- no row is refused
abbrev pub Passes : List ℕ → List Row → Type 0
Passes s [] = Unit {0}
Passes s (r ∷ rs) = (objection s r ≡ 0) × Passes s rs

-- no row starts before p
abbrev pub Later : ℕ → List Row → Type 0
Later p [] = Unit {0}
Later p (r ∷ rs) = (p ≤ r.start) × Later p rs

-- the first of the rows rs that is refused is refused with number n, and starts at p
pub record Refused (s : List ℕ) (rs : List Row) (n p : ℕ) : Type 0 where
  pub before : List Row
  pub row : Row
  pub behind : List Row
  pub split : rs ≡ before ++ (row ∷ behind)
  pub earlier : Passes s before
  pub number : objection s row ≡ n
  pub some : n ≡ 0 → ⊥
  pub place : row.start ≡ p

-- what strict accepts has plain reading's rows
abbrev pub StrictRows : Type 0
StrictRows = (s : List ℕ) (rs : List Row) → strict s ≡ accepted rs → plain s ≡ accepted rs

-- plain reading's refusals go first
abbrev pub PlainFirst : Type 0
PlainFirst = (s : List ℕ) (n p : ℕ) → plain s ≡ denied n p → strict s ≡ denied n p

-- where plain reading accepts, strict accepts exactly if no row is refused, and refuses exactly by the first row that
-- is, with 16 or 17
pub record Exactly (s : List ℕ) (rs : List Row) : Type 0 where
  pub accepts : Passes s rs → strict s ≡ accepted rs
  pub accepted_passes : strict s ≡ accepted rs → Passes s rs
  pub refuses : (n p : ℕ) → Refused s rs n p → strict s ≡ denied n p
  pub refused : (n p : ℕ) → strict s ≡ denied n p → Refused s rs n p
  pub numbers : (n p : ℕ) → strict s ≡ denied n p → (n ≡ lost_line_number) ⊎ (n ≡ flag_number)

abbrev pub StrictExactly : Type 0
StrictExactly = (s : List ℕ) (rs : List Row) → plain s ≡ accepted rs → Exactly s rs

-- the first row is first by place
abbrev pub InOrder : Type 0
InOrder = (s : List ℕ) (us : List Row) (r : Row) (vs : List Row) → plain s ≡ accepted (us ++ (r ∷ vs)) → Later r.start vs
