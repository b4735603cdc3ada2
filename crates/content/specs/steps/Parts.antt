-- The contents of directives from each of their parts on, as the code reads them.
use Rattle.decimal.specs.Faults.{Value}
use Rattle.std.specs.Prelude.{ℕ, suc, cond, List, [], ◌∷◌, eqb, length, Option}
use Rattle.text.specs.Answer.{To, ◌then◌, ◌and◌, must, maybe, many}
use Rattle.text.specs.Leaves.{gap, hard_gap, currency}
use Rattle.text.specs.Refusals.{missing}
use Rattle.amount.specs.Kinds.{price_kind, balance_kind, open_kind, close_kind, pad_kind, commodity_kind, amount_kind, tolerance_kind}
use Rattle.amount.specs.declared.detail.Detail.{Detail}
use Rattle.amount.specs.Details.{Rows, valued}
use Rattle.amount.specs.Expression.{expression}
use Rattle.amount.specs.Amounts.{hard_currency, price_of}
use Rattle.row.specs.steps.Writing.{some_row}
use Rattle.content.specs.Contents.{hard_account, tolerance, balance_of, one_currency, further, currencies, booking, open_of, pad_of, event_of}

-- a required gap, and then a reader
unfoldable pub past_gap : (List ℕ → ℕ → Rows) → List ℕ → ℕ → Rows
past_gap f s at = hard_gap missing s at and λ g. f s g

unfoldable pub tolerance_of : List ℕ → ℕ → Rows
tolerance_of s at = maybe at (tolerance s at)

unfoldable pub tolerance_read : List ℕ → ℕ → ℕ → Rows
tolerance_read s at i = maybe at (expression s i then λ e v. To e (valued tolerance_kind i e 0 0 v ∷ []))

unfoldable pub balance_end : ℕ → ℕ → Value → Option Detail → List ℕ → ℕ → Rows
balance_end g e v t s at =
    hard_gap missing s at and λ c. must missing c (currency s c) and λ d. To d (valued amount_kind g e c d v ∷ some_row t)

unfoldable pub balance_amount : List ℕ → ℕ → Rows
balance_amount s g =
    must missing g (expression s g) then λ e v. tolerance_of s e then λ t ts. hard_gap missing s t and λ c.
    must missing c (currency s c) and λ d. To d (valued amount_kind g e c d v ∷ ts)

unfoldable pub gap_currency : List ℕ → ℕ → Rows
gap_currency s at = gap s at and λ g. one_currency s g

unfoldable pub furthers : List ℕ → ℕ → Rows
furthers s at = many (further s) (suc (length s)) at

unfoldable pub currencies_of : List ℕ → ℕ → Rows
currencies_of s at = maybe at (gap s at and λ g. currencies s g)

unfoldable pub booking_of : List ℕ → ℕ → Rows
booking_of s at = maybe at (booking s at)

unfoldable pub listed_of : List ℕ → ℕ → Rows
listed_of s at = currencies_of s at and λ c. booking_of s c

-- the content of the directive of a kind
unfoldable pub content_of : ℕ → List ℕ → ℕ → Rows
content_of k s at =
    cond (eqb k price_kind) (price_of s at)
    (cond (eqb k balance_kind) (balance_of s at)
    (cond (eqb k open_kind) (open_of s at)
    (cond (eqb k close_kind) (hard_account s at) (cond (eqb k pad_kind) (pad_of s at) (cond (eqb k commodity_kind) (hard_currency s at) (event_of s at))))))
