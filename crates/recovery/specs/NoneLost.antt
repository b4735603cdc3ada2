-- M-110: what a box that prints statements unseen may rely on. Where strict recovering reading refuses no block, every
-- line of the ledger that starts with a digit starts a directive: no dated line is taken for a comment, and none stands
-- inside a string.
use Rattle.std.specs.Prelude.{ℕ, ◌-◌, ◌≤◌, ◌≡◌, true, ◌⊎◌, List, ◌∷◌, ◌++◌, get_or}
use Rattle.text.specs.Bytes.{is_digit}
use Rattle.text.specs.Every.{Every}
use Rattle.amount.specs.Kinds.{transaction_kind, event_kind, refusal_kind}
use Rattle.row.specs.declared.table.Row.{Row}
use Rattle.ledger.specs.Plain.{accepted}
use Rattle.recovery.specs.Recovering.{recovered_strictly}

-- a line of the text s starts at place a, with a digit
pub record DigitLine (s : List ℕ) (a : ℕ) : Type 0 where
  pub starts : (a ≡ 0) ⊎ (get_or s (a - 1) 0 ≡ 10)
  pub digit : is_digit (get_or s a 0) ≡ true

-- no row is that of a refused block
abbrev pub NoneRefused : List Row → Type 0
NoneRefused rs = Every (λ (r : Row). r.kind ≡ refusal_kind → ⊥) rs

-- among the rows stands that of a directive (kinds 6 to 13) that starts at place a
pub record DirectiveAt (rs : List Row) (a : ℕ) : Type 0 where
  pub before : List Row
  pub row : Row
  pub behind : List Row
  pub split : rs ≡ before ++ (row ∷ behind)
  pub place : row.start ≡ a
  pub from : transaction_kind ≤ row.kind
  pub upto : row.kind ≤ event_kind

abbrev pub NoneLost : Type 0
NoneLost = (s : List ℕ) (rs : List Row) → recovered_strictly s ≡ accepted rs → NoneRefused rs → (a : ℕ) → DigitLine s a → DirectiveAt rs a
