-- The totals of a small ledger by computation: rows and items are those of an independent model. A cost, a price, a
-- balance and another month do not count; the account's first posting gives the span; the posting without amount comes
-- last.
use Rattle.std.specs.Prelude.{ℕ, ◌≡◌, refl, List, [], ◌∷◌, map, ℤ, pos, negsuc}
use Rattle.decimal.specs.Exact.{decimal_of, exact, exactly, twos_of}
use Rattle.text.specs.Bytes.{bytes}
use Rattle.row.specs.declared.table.Row.{Row}
use Rattle.row.specs.Row.{row_of}
use Rattle.row.specs.Details.{millionths}
use Rattle.access.specs.Spans.{good_span, span_text}
use Rattle.order.specs.Order.{◌next◌, numbers, texts, said, order_of, up_to, may_precede}
use Rattle.order.specs.Sorted.{insert, sorted}
use Rattle.order.specs.Sums.{whole_from, sum_of, summed}
use Rattle.order.specs.Groups.{those, alike, heads, item_of, listed, items}
use Rattle.walk.specs.Postings.{dated, stated, unstated, posting, postings_from}
use Rattle.totals.specs.Totals.{totals_of, item_row}

abbrev row : ℕ → ℕ → ℕ → ℕ → ℕ → ℕ → ℤ → Row
row k a e l p q v = row_of k a e l p q v

abbrev pub ledger : List ℕ
ledger = bytes "2024-03-01 * \"a\"\n  B:X  12.5 KWH {2 EUR}\n  A:Y\n  A:Z 1 EUR @ 3 USD\n2024-03-31 balance A:Z 5 EUR\n2024-04-01 *\n  A:Z 7 EUR\n2024-03-09 *\n  A:Z -2 EUR\n  B:X 1 CHF\n  B:X 2 KWH\n"

abbrev pub rows : List Row
rows =
    row 6 0 67 1 20240301 10 (pos 0)
    ∷ row 20 11 12 1 0 0 (pos 0)
    ∷ row 22 14 15 1 0 0 (pos 0)
    ∷ row 33 19 22 2 0 0 (pos 0)
    ∷ row 26 24 28 2 29 32 (pos 12500000)
    ∷ row 28 33 40 2 0 0 (pos 0)
    ∷ row 26 34 35 2 36 39 (pos 2000000)
    ∷ row 33 43 46 3 0 0 (pos 0)
    ∷ row 33 49 52 4 0 0 (pos 0)
    ∷ row 26 53 54 4 55 58 (pos 1000000)
    ∷ row 29 61 62 4 63 66 (pos 3000000)
    ∷ row 8 67 96 5 20240331 2 (pos 0)
    ∷ row 25 86 89 5 0 0 (pos 0)
    ∷ row 26 90 91 5 92 95 (pos 5000000)
    ∷ row 6 96 121 6 20240401 3 (pos 0)
    ∷ row 20 107 108 6 0 0 (pos 0)
    ∷ row 33 111 114 7 0 0 (pos 0)
    ∷ row 26 115 116 7 117 120 (pos 7000000)
    ∷ row 6 121 171 8 20240309 7 (pos 0)
    ∷ row 20 132 133 8 0 0 (pos 0)
    ∷ row 33 136 139 9 0 0 (pos 0)
    ∷ row 26 140 142 9 143 146 (negsuc 1999999)
    ∷ row 33 149 152 10 0 0 (pos 0)
    ∷ row 26 153 154 10 155 158 (pos 1000000)
    ∷ row 33 161 164 11 0 0 (pos 0)
    ∷ row 26 165 166 11 167 170 (pos 2000000)
    ∷ []

pub march_listed : map item_row (totals_of ledger 2024 3 rows) ≡
    row 50 49 52 2 55 58 (negsuc 999999)
    ∷ row 50 149 152 1 155 158 (pos 1000000)
    ∷ row 50 19 22 2 29 32 (pos 14500000)
    ∷ row 51 43 46 1 0 0 (pos 0)
    ∷ []
unfolding bytes texts ◌next◌ numbers said order_of up_to may_precede insert sorted whole_from sum_of summed those alike heads item_of listed items row_of twos_of good_span span_text decimal_of exact exactly millionths dated stated unstated posting postings_from totals_of item_row
march_listed = refl
