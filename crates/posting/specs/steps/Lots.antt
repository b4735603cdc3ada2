-- The price and the cost of a posting from each of their parts on, as the code reads them.
use Rattle.text.specs.declared.stop.Stop.{Stop}
use Rattle.text.specs.steps.Told.{Reading}
use Rattle.std.specs.Prelude.{ℕ, ◌+◌, cond, List, [], ◌∷◌, eqb, get_or, None, Option, Some, Err, Ok}
use Prim.Native.Char.{code}
use Rattle.text.specs.Answer.{Ans, To, Miss, Hard, ◌and◌, maybe}
use Rattle.text.specs.Run.{blanks}
use Rattle.text.specs.Leaves.{gap}
use Rattle.text.specs.Lines.{comma_at}
use Rattle.text.specs.Dates.{date_at}
use Rattle.amount.specs.Kinds.{amount_kind}
use Rattle.amount.specs.declared.detail.Detail.{Detail}
use Rattle.amount.specs.Details.{Rows}
use Rattle.amount.specs.Amounts.{amount}
use Rattle.amount.specs.steps.Answers.{one_of}
use Rattle.posting.specs.Costs.{Lot, price, cost}
use Rattle.posting.specs.declared.cost.Inside.{Inside}

unfoldable pub brace_at : List ℕ → ℕ → Option ℕ
brace_at s at = let b = blanks s at in cond (eqb (get_or s b 0) (code "}")) (Some (b + 1)) None

-- the amount's row of a lot, if it has one
unfoldable pub lot_row : List Detail → Option Detail
lot_row [] = None
lot_row (d ∷ ds) = Some d

abbrev pub inside_with : ℕ → Option Detail → Inside
inside_with y n = record { date = y; amount = n }

-- the code's answer from the rule's
unfoldable pub lot_of : Ans Lot → Reading Inside
lot_of (To e l) = Ok (e, inside_with l.when (lot_row l.rows))
lot_of Miss = Err Stop.Miss
lot_of (Hard k p) = Err (Stop.Hard k p)

unfoldable pub gap_amount : ℕ → List ℕ → ℕ → Rows
gap_amount k s at = gap s at and λ g. amount k s g

unfoldable pub optional_price : List ℕ → ℕ → Rows
optional_price s at = maybe at (gap s at and λ g. price s g)

unfoldable pub optional_cost : List ℕ → ℕ → Rows
optional_cost s at = maybe at (gap s at and λ g. cost s g)

-- ---- the five forms: a is the amount at the front, d the date

unfoldable pub on_date : ℕ → Detail → Option (ℕ × ℕ) → Reading Inside
on_date e n (Some (g, y)) = Ok (g, inside_with y (Some n))
on_date e n None = Err Stop.Miss

unfoldable pub after_comma : Option ℕ → (ℕ → Reading Inside) → Reading Inside
after_comma (Some f) k = k f
after_comma None k = Err Stop.Miss

unfoldable pub amount_date : List ℕ → Reading Detail → Reading Inside
amount_date s (Ok (e, n)) = after_comma (comma_at s e) (λ f. on_date f n (date_at s f))
amount_date s (Err stop) = Err stop

unfoldable pub with_date : ℕ → Reading Detail → Reading Inside
with_date y (Ok (g, n)) = Ok (g, inside_with y (Some n))
with_date y (Err stop) = Err stop

unfoldable pub date_amount : List ℕ → Option (ℕ × ℕ) → Reading Inside
date_amount s (Some (e, y)) = after_comma (comma_at s e) (λ f. with_date y (one_of (amount amount_kind s f)))
date_amount s None = Err Stop.Miss

unfoldable pub alone : ℕ → Reading Detail → Option (ℕ × ℕ) → Reading Inside
alone at (Ok (e, n)) d = Ok (e, inside_with 0 (Some n))
alone at (Err Stop.Miss) (Some (e, y)) = Ok (e, inside_with y None)
alone at (Err Stop.Miss) None = Ok (at, inside_with 0 None)
alone at (Err (Stop.Hard k p)) d = Err (Stop.Hard k p)

unfoldable pub lot_else : Reading Inside → Reading Inside → Reading Inside
lot_else (Ok x) b = Ok x
lot_else (Err Stop.Miss) b = b
lot_else (Err (Stop.Hard k p)) b = Err (Stop.Hard k p)

unfoldable pub date_first : List ℕ → ℕ → Reading Detail → Reading Inside
date_first s at a = lot_else (date_amount s (date_at s at)) (alone at a (date_at s at))
