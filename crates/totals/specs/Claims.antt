-- What holds of the totals (M-108): the order of transactions in the file never changes a sum or a count, and a sum is
-- the whole numbers' sum of the values of its postings.
use Rattle.std.specs.Prelude.{ℕ, ◌≡◌}
use mathlib.Core.List.{List, map, Permᴰ}
use Rattle.text.specs.Every.{Every}
use Rattle.row.specs.declared.table.Row.{Row}
use Rattle.order.specs.Order.{Said, said}
use Rattle.order.specs.Groups.{item_of, Line, line_of}
use Rattle.walk.specs.Postings.{dated, postings}
use Rattle.totals.specs.Totals.{totals_of}

-- what the postings of a month say, in the order of the file: kind, account, currency and value of each
abbrev pub sayings : List ℕ → ℕ → ℕ → List Row → List Said
sayings s y m rs = map (said s) (postings (dated y m) rs)

-- what is listed, spans aside: kind, account, currency, number and sum of each item
abbrev pub lines : List ℕ → ℕ → ℕ → List Row → List Line
lines s y m rs = map (line_of (said s)) (totals_of s y m rs)

-- two ledgers, s with the rows rs and z with the rows qs, whose postings of the month are the same up to order
abbrev pub OrderNeverCounts : Type 0
OrderNeverCounts = (s z : List ℕ) (y m : ℕ) (rs qs : List Row) → Permᴰ (sayings s y m rs) (sayings z y m qs) → lines s y m rs ≡ lines z y m qs

-- each item has the number and the sum of those postings of the month that are like its first one: all of them count,
-- and the size of the sum is judged at the end
abbrev pub SumsOfThePostings : Type 0
SumsOfThePostings = (s : List ℕ) (y m : ℕ) (rs : List Row) → Every (λ i. i ≡ item_of (said s) (postings (dated y m) rs) i.first) (totals_of s y m rs)
