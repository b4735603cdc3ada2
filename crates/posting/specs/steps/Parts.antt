-- A posting from each of its parts on, as the code reads it.
use Rattle.std.specs.Prelude.{ℕ, ◌+◌, cond, List, [], ◌∷◌, get_or, None, Option}
use Rattle.text.specs.Answer.{To, ◌then◌, ◌and◌, maybe}
use Rattle.text.specs.Lines.{gap_at}
use Rattle.text.specs.Leaves.{line_end}
use Rattle.text.specs.Accounts.{account}
use Rattle.amount.specs.Kinds.{posting_kind}
use Rattle.amount.specs.Details.{Rows, named}
use Rattle.posting.specs.Postings.{is_flag, posting_flag, units}
use Rattle.posting.specs.steps.Lots.{optional_price, optional_cost}

unfoldable pub flag_gap : List ℕ → ℕ → Option ℕ
flag_gap s at = cond (is_flag (get_or s at 0)) (gap_at s (at + 1)) None

unfoldable pub costs_of : List ℕ → ℕ → Rows
costs_of s at = optional_cost s at and λ f. optional_price s f

unfoldable pub units_of : List ℕ → ℕ → Rows
units_of s at = maybe at (units s at)

unfoldable pub units_end : List ℕ → ℕ → Rows
units_end s at = units_of s at and λ m. line_end s m

unfoldable pub holder_of : ℕ → List ℕ → ℕ → Rows
holder_of f s a = account s a and λ e. To e (named posting_kind a e f 0 ∷ []) and λ e. units_end s e

unfoldable pub flagged_of : List ℕ → ℕ → Rows
flagged_of s at = posting_flag s at then λ a f. holder_of f s a
