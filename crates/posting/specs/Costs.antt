-- Rules 12 and 13: the price and the cost of a posting.
use Rattle.std.specs.Prelude.{ℕ, List, [], ◌∷◌}
use Prim.Native.Char.{code}
use Rattle.text.specs.Run.{blanks}
use Rattle.text.specs.Answer.{Ans, To, ◌then◌, ◌and◌, ◌else◌}
use Rattle.text.specs.Leaves.{gap, comma, date, byte}
use Rattle.amount.specs.Kinds.{amount_kind, cost_kind, unit_price_kind, total_price_kind}
use Rattle.amount.specs.declared.detail.Detail.{Detail}
use Rattle.amount.specs.Details.{Rows, named}
use Rattle.amount.specs.Amounts.{amount}

-- Rule 12. Price: `@` or `@@`, gap, amount.
unfoldable pub price : List ℕ → ℕ → Rows
price s at =
    let unit = byte (code "@") s at and λ i. gap s i and λ g. amount unit_price_kind s g in
    let total = byte (code "@") s at and λ i. byte (code "@") s i and λ j. gap s j and λ g. amount total_price_kind s g in
    unit else total

-- what stands between the braces: a date or 0, and the amount's row
pub record Lot : Type 0 where
  pub when : ℕ
  pub rows : List Detail

abbrev pub lot : ℕ → List Detail → Lot
lot d rs = record { when = d; rows = rs }

-- amount `,` date; or date `,` amount; or amount; or date; or nothing
unfoldable pub inside : List ℕ → ℕ → Ans Lot
inside s at =
    let amount_date = amount amount_kind s at then λ i rs. comma {A = Detail} s i then λ j _. date s j then λ e d. To e (lot d rs) in
    let date_amount = date s at then λ i d. comma {A = Detail} s i then λ j _. amount amount_kind s j then λ e rs. To e (lot d rs) in
    let amountAlone = amount amount_kind s at then λ e rs. To e (lot 0 rs) in
    let dateAlone = date s at then λ e d. To e (lot d []) in
    amount_date else date_amount else amountAlone else dateAlone else To at (lot 0 [])

-- Cost: `{`, blanks, that, blanks, `}`.
unfoldable pub cost : List ℕ → ℕ → Rows
cost s at = byte (code "{") s at and λ i. inside s (blanks s i) then λ e l. byte (code "}") s (blanks s e) and λ f. To f (named cost_kind at f l.when 0 ∷ l.rows)
