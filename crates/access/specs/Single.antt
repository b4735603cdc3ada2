-- One expression in a form (M-106), with its value and where it stops; refusals in the order 1, 2, 3, 11, then 6 to 8.
use Rattle.text.specs.Refusals.{cause_number, refused_with}
use Rattle.text.specs.declared.stop.Refused.{Refused}
use Rattle.decimal.specs.Faults.{Value, number_of}
use Rattle.std.specs.Prelude.{ℕ, ◌≡◌, cond, List, leb, ltb, length, Err, Ok, Result}
use Rattle.decimal.specs.declared.Decimal.{Decimal}
use Rattle.decimal.specs.declared.Form.{Form}
use Rattle.decimal.specs.declared.Form.TheVariants.{Exact, Rounding}
use Rattle.text.specs.Permitted.{clean, size_limit}
use Rattle.text.specs.Answer.{Ans, To, Miss, Hard}
use Rattle.amount.specs.Expression.{expression_in}

-- the place of 6, 7 and 8 is the start of the expression
unfoldable pub value_answer : ℕ → Value → Result (ℕ × Decimal) Refused
value_answer e (Ok d) = Ok (e, d)
value_answer e (Err n) = Err (refused_with (number_of n) 0 0)

unfoldable pub read_answer : Ans Value → Result (ℕ × Decimal) Refused
read_answer (To e v) = value_answer e v
read_answer Miss = Err (refused_with 11 0 0)
read_answer (Hard k p) = Err (refused_with (cause_number k) p 0)

unfoldable pub evaluated : Form → List ℕ → Result (ℕ × Decimal) Refused
evaluated form s =
    let whole = read_answer (expression_in form s 0) in
    cond (leb (length s) size_limit) (cond (ltb (clean s) (length s)) (Err (refused_with 2 (clean s) 0)) whole) (Err (refused_with 1 0 0))

-- M-106: what the exact form gives a value for, the rounding form gives the same value for (`proofs/ExactStays.antt`)
abbrev pub ExactStays : Type 0
ExactStays =
    (s : List ℕ) (e : ℕ) (d : Decimal) → evaluated Exact s ≡ Ok (e, d) → evaluated Rounding s ≡ Ok (e, d)
