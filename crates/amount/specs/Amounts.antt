-- Rule 10: amounts, and the content of a price directive. A required part's miss is refusal 4.
use Rattle.std.specs.Prelude.{ℕ, List, [], ◌∷◌}
use Rattle.text.specs.Answer.{To, ◌then◌, ◌and◌, must}
use Rattle.text.specs.Leaves.{gap, hard_gap, currency}
use Rattle.text.specs.Refusals.{missing}
use Rattle.amount.specs.Kinds.{amount_kind, currency_kind}
use Rattle.amount.specs.Details.{Rows, span, valued}
use Rattle.amount.specs.Expression.{expression}

-- Amount: expression, gap, currency. Its row is of kind k.
unfoldable pub amount : ℕ → List ℕ → ℕ → Rows
amount k s at = expression s at then λ e v. gap s e and λ c. currency s c and λ d. To d (valued k at e c d v ∷ [])

unfoldable pub hard_currency : List ℕ → ℕ → Rows
hard_currency s at = must missing at (currency s at) and λ e. To e (span currency_kind at e ∷ [])

-- an amount each part of which is required
unfoldable pub hard_amount : ℕ → List ℕ → ℕ → Rows
hard_amount k s at =
    must missing at (expression s at) then λ e v. hard_gap missing s e and λ c.
    must missing c (currency s c) and λ d. To d (valued k at e c d v ∷ [])

-- Price: currency, gap, amount.
unfoldable pub price_of : List ℕ → ℕ → Rows
price_of s at = hard_currency s at and λ e. hard_gap missing s e and λ g. hard_amount amount_kind s g
