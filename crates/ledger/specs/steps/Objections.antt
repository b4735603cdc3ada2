-- The strict profile's judgement of an entry as the code works it out: from its kind, its length and its text alone.
use Rattle.std.specs.Prelude.{ℕ, ◌+◌, Bool, cond, ◌||◌, List, eqb, get_or, None, Option, Some, ◌≤◌}
use Rattle.text.specs.Bytes.{is_small, between}
use Rattle.text.specs.Run.{blanks}
use Rattle.text.specs.Permitted.{size_limit}
use Rattle.amount.specs.Kinds.{blank_kind, transaction_kind}
use Rattle.ledger.specs.Strict.{lost_line_number, flag_number, is_usual, lost_line}
use Rattle.ledger.specs.declared.strict.Objection.{Objection}

abbrev pub objection_of : ℕ → ℕ → Objection
objection_of n p = record { number = n; place = p }

-- `*`, `!`, or what `txn` starts with
unfoldable pub flag_passes : ℕ → Bool
flag_passes b = is_usual b || is_small b

unfoldable pub lost_of : List ℕ → Option Objection
lost_of u = cond (lost_line u) (Some (objection_of lost_line_number 0)) None

-- the flag stands behind the date, of ten bytes, and a gap
unfoldable pub flag_of : List ℕ → Option Objection
flag_of s = let g = blanks s 10 in cond (flag_passes (get_or s g 0)) None (Some (objection_of flag_number g))

unfoldable pub entry_objection : ℕ → ℕ → List ℕ → Option Objection
entry_objection k n s = cond (eqb k blank_kind) (lost_of (between s 0 n)) (cond (eqb k transaction_kind) (flag_of s) None)

-- how far an objection stands at the most: in an entry, a flag behind its date; in a ledger
abbrev pub entry_reach : ℕ
entry_reach = size_limit + 10

abbrev pub ledger_reach : ℕ
ledger_reach = size_limit + entry_reach

-- it stands no further than n, if there is one
abbrev pub Near : ℕ → Option Objection → Type 0
Near n None = Unit {0}
Near n (Some o) = o.place ≤ n
