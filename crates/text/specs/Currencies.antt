-- Rule 7. Currency: a capital, then the longest run of capitals, digits, `-`, `_`, `.`, `'`, whose last byte must be a
-- capital or digit.
use Rattle.std.specs.Prelude.{ℕ, ◌+◌, ◌-◌, cond, List, get_or, None, Option, Some}
use Rattle.text.specs.Bytes.{is_capital, in_currency, starts_part}
use Rattle.text.specs.Run.{run_to}

unfoldable pub currency_at : List ℕ → ℕ → Option ℕ
currency_at s at =
    cond (is_capital (get_or s at 0))
    (let e = run_to in_currency s (at + 1) in cond (starts_part (get_or s (e - 1) 0)) (Some e) None)
    None
