-- The code's answers, each from the answer of the rule.
use Rattle.text.specs.declared.stop.Stop.{Stop}
use Rattle.text.specs.steps.Told.{Reading}
use Rattle.decimal.specs.Faults.{Value}
use Rattle.std.specs.Prelude.{ℕ, Bool, true, false, List, [], ◌∷◌, Err, Ok, None, Option, Some}
use Rattle.text.specs.Answer.{Ans, To, Miss, Hard, ◌and◌, must}
use Rattle.text.specs.Leaves.{hard_gap, currency}
use Rattle.text.specs.Refusals.{missing}
use Rattle.amount.specs.Kinds.{amount_kind, currency_kind}
use Rattle.amount.specs.Expression.{Arithmetic, negated_value, is_plus, is_times, atom, products, closed}
use Rattle.amount.specs.Details.{Rows, span, valued}
use Rattle.amount.specs.Amounts.{hard_amount}
use Rattle.amount.specs.declared.detail.Detail.{Detail}

-- the answer of an expression
unfoldable pub answer_of : Ans Value → Reading Value
answer_of (To e v) = Ok (e, v)
answer_of Miss = Err Stop.Miss
answer_of (Hard k p) = Err (Stop.Hard k p)

-- the answer of a reader that makes one row
unfoldable pub one_of : Rows → Reading Detail
one_of (To j []) = Err Stop.Miss
one_of (To j (d ∷ ds)) = Ok (j, d)
one_of Miss = Err Stop.Miss
one_of (Hard k p) = Err (Stop.Hard k p)

-- the answer of a reader that makes one row at most
unfoldable pub option_of : Rows → Reading (Option Detail)
option_of (To j []) = Ok (j, None)
option_of (To j (d ∷ ds)) = Ok (j, Some d)
option_of Miss = Err Stop.Miss
option_of (Hard k p) = Err (Stop.Hard k p)

-- the operators of a class, `*` and `/` or else `+` and `-`, and what they join
unfoldable pub operator_of : Bool → ℕ → Bool
operator_of true = is_times
operator_of false = is_plus

unfoldable pub operand_of : Bool → Arithmetic → (ℕ → Ans Value) → List ℕ → ℕ → Ans Value
operand_of true calc = atom
operand_of false calc = products calc

-- an expression's answer, negated
unfoldable pub negated_answer : Reading Value → Reading Value
negated_answer (Ok (e, v)) = Ok (e, negated_value v)
negated_answer (Err stop) = Err stop

-- a group's expression, then blanks and `)`
unfoldable pub closed_answer : List ℕ → Reading Value → Reading Value
closed_answer s (Ok (e, v)) = answer_of (closed s e v)
closed_answer s (Err stop) = Err stop

-- what follows the expression of a required amount
unfoldable pub amount_end : ℕ → List ℕ → ℕ → ℕ → Value → Rows
amount_end k s at e v =
    hard_gap missing s e and λ c. must missing c (currency s c) and λ d. To d (valued k at e c d v ∷ [])

-- a price from after its currency
unfoldable pub priced_from : List ℕ → ℕ → ℕ → Rows
priced_from s at e = To e (span currency_kind at e ∷ []) and λ e. hard_gap missing s e and λ g. hard_amount amount_kind s g

-- the answer of a reader that makes two rows
unfoldable pub pair_of : Rows → Reading (Detail × Detail)
pair_of (To j []) = Err Stop.Miss
pair_of (To j (d ∷ [])) = Err Stop.Miss
pair_of (To j (d ∷ e ∷ ds)) = Ok (j, (d, e))
pair_of Miss = Err Stop.Miss
pair_of (Hard k p) = Err (Stop.Hard k p)
