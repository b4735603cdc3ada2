-- Rules 11 and 12: postings, and the lines after a transaction's head.
use Rattle.std.specs.Prelude.{ℕ, suc, ◌+◌, Bool, cond, not, ◌&&◌, List, [], ◌∷◌, eqb, length, get_or}
use Rattle.text.specs.Bytes.{is_small}
use Rattle.text.specs.Answer.{Ans, To, Miss, ◌then◌, ◌and◌, ◌else◌, maybe, many}
use Rattle.text.specs.Leaves.{gap, line_end, empty_line}
use Rattle.text.specs.Accounts.{account}
use Rattle.amount.specs.Kinds.{amount_kind, posting_kind}
use Rattle.amount.specs.Details.{Rows, named}
use Rattle.amount.specs.Amounts.{amount}
use Rattle.posting.specs.Costs.{price, cost}
use Rattle.posting.specs.Metadata.{metadata}

-- Rule 11. Flag: any byte that is no small letter, line feed too.
unfoldable pub is_flag : ℕ → Bool
is_flag b = not (eqb b 0) && not (is_small b)

unfoldable pub flag : List ℕ → ℕ → Rows
flag s at = cond (is_flag (get_or s at 0)) (To (at + 1) []) Miss

-- optionally flag and gap: the flag's byte or 0
unfoldable pub posting_flag : List ℕ → ℕ → Ans ℕ
posting_flag s at = (flag s at then λ f _. gap {A = ℕ} s f then λ g _. To g (get_or s at 0)) else To at 0

-- gap, amount, optionally gap and cost, optionally gap and price
unfoldable pub units : List ℕ → ℕ → Rows
units s at =
    gap s at and λ g. amount amount_kind s g and λ e. maybe e (gap s e and λ g. cost s g) and λ f. maybe f (gap s f and λ g. price s g)

-- Rule 12, up to the line end. Posting: gap, optionally flag and gap, account, optionally units, line end.
unfoldable pub posting_line : List ℕ → ℕ → Rows
posting_line s at =
    gap s at and λ g. posting_flag s g then λ a f. account s a and λ e. To e (named posting_kind a e f 0 ∷ []) and λ e. maybe e (units s e) and λ m. line_end s m

-- that, and metadata
unfoldable pub posting : List ℕ → ℕ → Rows
posting s at = posting_line s at and λ l. metadata s l

-- Rule 11. Postings and empty lines. A posting that misses ends the transaction.
unfoldable pub body_step : List ℕ → ℕ → Rows
body_step s at =
    let line = posting s at in
    let other = empty_line s at in
    line else other

unfoldable pub body : List ℕ → ℕ → Rows
body s at = many (body_step s) (suc (length s)) at
