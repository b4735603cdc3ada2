-- Where a walk stands: which rows, and which postings, are still to come; and what a turn tells.
use Rattle.std.specs.Prelude.{ℕ, ◌+◌, ◌-◌, ◌*◌, ◌≤◌, ◌<◌, ◌≡◌, Bool, cond, List, [], ◌∷◌, ◌++◌, map, ltb, length, drop, None, Option, Some, is_some}
use Rattle.text.specs.Answer.{To, Miss, Hard}
use Rattle.amount.specs.declared.detail.Detail.{Detail}
use Rattle.amount.specs.Details.{Rows}
use Rattle.row.specs.declared.table.Row.{Row}
use Rattle.row.specs.Row.{row_in, width}
use Rattle.row.specs.steps.Writing.{laid}
use Rattle.row.specs.steps.Holding.{Held}
use Rattle.posting.specs.Postings.{body}
use Rattle.ledger.specs.Plain.{accepted, read_from}
use Rattle.ledger.specs.steps.Scan.{with_line}
use Rattle.walk.specs.Postings.{posting, postings_from}
use Rattle.walk.specs.declared.step.Cursor.{Cursor}

unfoldable pub date_of : Option (ℕ × ℕ) → ℕ
date_of (Some (e, y)) = y
date_of None = 0

-- where a head that was read ends
unfoldable pub head_end : Rows → ℕ
head_end (To e ds) = e
head_end Miss = 0
head_end (Hard k p) = 0

-- the posting in a table, where n rows were read
unfoldable pub posted_in : List ℕ → ℕ → Row
posted_in t n = posting (row_in t) (cond (ltb 1 n) (row_in (drop width t) ∷ []) [])

-- ---- the rows that are still to come, with no lines

-- of the entries from a place on
pub record Rest (s : List ℕ) (at : ℕ) (ys : List Row) : Type 0 where
  pub line : ℕ
  pub rows : List Row
  pub reads : read_from (length s - at) at line (drop at s) ≡ accepted rows
  pub bare : ys ≡ map (with_line 0) rows

-- the same from a place in the body of the transaction that starts at from
pub record Within (s : List ℕ) (at from : ℕ) (ys : List Row) : Type 0 where
  pub end : ℕ
  pub details : List Detail
  pub others : List Row
  pub past : from ≤ at
  pub reads : body (drop from s) (at - from) ≡ To end details
  pub rest : Rest s (from + end) others
  pub all : ys ≡ map (laid from) details ++ others

abbrev pub Comes : Option ℕ → List ℕ → ℕ → List Row → Type 0
Comes (Some from) s at ys = Within s at from ys
Comes None s at ys = Rest s at ys

-- at an entry, and inside a transaction whose date is wanted
abbrev pub outer : ℕ → Cursor
outer at = record { at = at; inside = None }

abbrev pub inner : ℕ → ℕ → Cursor
inner at from = record { at = at; inside = Some from }

-- the postings that are still to come
pub record Stands (wanted : ℕ → Bool) (s : List ℕ) (c : Cursor) (ps : List Row) : Type 0 where
  pub inside : c.at ≤ length s
  pub rows : List Row
  pub comes : Comes c.inside s c.at rows
  pub these : ps ≡ postings_from wanted (is_some c.inside) rows

pub record Standing (wanted : ℕ → Bool) (s : List ℕ) (c : Cursor) : Type 0 where
  pub these : List Row
  pub stands : Stands wanted s c these

-- what falls with each turn
abbrev pub left : List ℕ → Cursor → ℕ
left s c = 2 * (length s - c.at) + cond (is_some c.inside) 1 0

-- where a walk goes on, and the posting that it passed, if it passed one; nothing at the end
abbrev pub Turn : Type 0
Turn = Option (Cursor × Option Row)

-- what a turn tells, where the postings ps were to come
abbrev pub Told : (ℕ → Bool) → List ℕ → Cursor → Turn → List Row → Type 0
Told wanted s c (Some (d, Some p)) ps =
    (qs : List Row) × (ps ≡ p ∷ qs) × Held p × Stands wanted s d qs × (left s d < left s c) × (c.at < d.at)
Told wanted s c (Some (d, None)) ps = Stands wanted s d ps × (left s d < left s c) × (c.at ≤ d.at)
Told wanted s c None ps = ps ≡ []

-- a turn that was made, whatever is to come
pub record Turned (wanted : ℕ → Bool) (s : List ℕ) (c : Cursor) (r : Turn) : Type 0 where
  pub tells : (ps : List Row) → Stands wanted s c ps → Told wanted s c r ps
