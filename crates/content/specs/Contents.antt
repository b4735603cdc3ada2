-- Rule 10: the contents of directives. Each part is hard but those that are optional.
use Rattle.std.specs.Prelude.{ℕ, suc, List, [], ◌∷◌, length}
use Prim.Native.Char.{code}
use Rattle.text.specs.Run.{blanks}
use Rattle.text.specs.Answer.{To, ◌then◌, ◌and◌, must, maybe, many}
use Rattle.text.specs.Leaves.{gap, currency, byte, comma, hard_gap}
use Rattle.text.specs.Accounts.{account}
use Rattle.text.specs.Refusals.{missing}
use Rattle.amount.specs.Kinds.{account_kind, amount_kind, tolerance_kind, currency_kind, booking_kind, string_kind}
use Rattle.amount.specs.Details.{Rows, span, valued, quoted}
use Rattle.amount.specs.Expression.{expression}

unfoldable pub hard_account : List ℕ → ℕ → Rows
hard_account s at = must missing at (account s at) and λ e. To e (span account_kind at e ∷ [])

unfoldable pub hard_string : List ℕ → ℕ → Rows
hard_string s at = must missing at (quoted (span string_kind) s at)

-- blanks `~` blanks expression
unfoldable pub tolerance : List ℕ → ℕ → Rows
tolerance s at = byte (code "~") s (blanks s at) and λ i. let b = blanks s i in expression s b then λ e v. To e (valued tolerance_kind b e 0 0 v ∷ [])

-- Balance: account, gap, expression, optionally a tolerance, gap, currency. The amount names that currency.
unfoldable pub balance_of : List ℕ → ℕ → Rows
balance_of s at =
    hard_account s at and λ a. hard_gap missing s a and λ g. must missing g (expression s g) then λ e v.
    maybe e (tolerance s e) then λ t ts. hard_gap missing s t and λ c.
    must missing c (currency s c) and λ d. To d (valued amount_kind g e c d v ∷ ts)

-- currencies joined by commas with blanks around
unfoldable pub one_currency : List ℕ → ℕ → Rows
one_currency s at = currency s at and λ e. To e (span currency_kind at e ∷ [])

unfoldable pub further : List ℕ → ℕ → Rows
further s at = comma s at and λ j. one_currency s j

unfoldable pub currencies : List ℕ → ℕ → Rows
currencies s at = one_currency s at and λ e. many (further s) (suc (length s)) e

unfoldable pub booking : List ℕ → ℕ → Rows
booking s at = gap s at and λ g. quoted (span booking_kind) s g

-- Open: account, optionally gap and currencies, optionally gap and string.
unfoldable pub open_of : List ℕ → ℕ → Rows
open_of s at = hard_account s at and λ a. maybe a (gap s a and λ g. currencies s g) and λ c. maybe c (booking s c)

-- Pad: account, gap, account.
unfoldable pub pad_of : List ℕ → ℕ → Rows
pad_of s at = hard_account s at and λ a. hard_gap missing s a and λ g. hard_account s g

-- Event (H): string, gap, string.
unfoldable pub event_of : List ℕ → ℕ → Rows
event_of s at = hard_string s at and λ a. hard_gap missing s a and λ g. hard_string s g
