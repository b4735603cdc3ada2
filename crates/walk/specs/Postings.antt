-- The postings of transactions, from plain reading's rows (M-108).
use Rattle.std.specs.Prelude.{ℕ, ◌/◌, ◌%◌, Bool, false, cond, ◌&&◌, List, [], ◌∷◌, eqb, ltb}
use Rattle.row.specs.declared.table.Row.{Row}
use Rattle.amount.specs.Kinds.{first_detail, transaction_kind, amount_kind, posting_kind}

-- whether a date, as the number yyyymmdd, is of the year y and the month m
unfoldable pub dated : ℕ → ℕ → ℕ → Bool
dated y m d = eqb (d / 10000) y && eqb (d / 100 % 100) m

-- the kinds of M-108: a posting that states an amount, and one that does not
abbrev pub stated_kind : ℕ
stated_kind = 50

abbrev pub unstated_kind : ℕ
unstated_kind = 51

-- A posting as a row of its own: kind 50 where it states an amount, 51 where it does not; the span of its account; p
-- and q the span of the amount's currency, and the amount's value. r is the posting's row, a its amount's.
unfoldable pub stated : Row → Row → Row
stated r a = record { kind = stated_kind; start = r.start; end = r.end; line = 0; p = a.p; q = a.q; bits = a.bits }

unfoldable pub unstated : Row → Row
unstated r = record { kind = unstated_kind; start = r.start; end = r.end; line = 0; p = 0; q = 0; bits = 0 }

-- its amount is the row directly after it, if that is a 26: the 26 behind a 28 is the cost's
unfoldable pub posting : Row → List Row → Row
posting r [] = unstated r
posting r (a ∷ rs) = cond (eqb a.kind amount_kind) (stated r a) (unstated r)

-- the postings (33) among rows; `within` tells whether the last entry, a row of a kind under 20, is a transaction (6)
-- whose date, its p, is wanted
unfoldable pub postings_from : (ℕ → Bool) → Bool → List Row → List Row
postings_from wanted within [] = []
postings_from wanted within (r ∷ rs) =
    let still = cond (ltb r.kind first_detail) (eqb r.kind transaction_kind && wanted r.p) within in
    let rest = postings_from wanted still rs in
    cond (eqb r.kind posting_kind && still) (posting r rs ∷ rest) rest

abbrev pub postings : (ℕ → Bool) → List Row → List Row
postings wanted rs = postings_from wanted false rs
