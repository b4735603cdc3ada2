-- M-106, what the exact and the rounding form share. `proofs/FormsAgree.antt` shows it of every expression.
use Rattle.decimal.specs.Faults.{Value}
use Rattle.std.specs.Prelude.{ℕ, ◌≡◌, List}
use Rattle.decimal.specs.Exact.{Knows}
use Rattle.decimal.specs.declared.Form.TheVariants.{Exact, Rounding}
use Rattle.text.specs.Answer.{Ans, To, Miss, Hard}
use Rattle.amount.specs.Expression.{expression_in}

-- where one answer reads, the other reads to the same place, with a value to which R relates; where one misses, so does
-- the other; where one is refused, so is the other, with the same number at the same place
abbrev pub Alike : (Value → Value → Type 0) → Ans Value → Ans Value → Type 0
Alike R (To e v) b = (w : Value) × ((b ≡ To e w) × R v w)
Alike R Miss b = b ≡ Miss
Alike R (Hard k p) b = b ≡ Hard k p

-- the forms read the same, end at the same place and are refused alike; a value that the exact form knows is the
-- rounding form's too
abbrev pub FormsAgree : Type 0
FormsAgree = (s : List ℕ) (at : ℕ) → Alike Knows (expression_in Exact s at) (expression_in Rounding s at)
