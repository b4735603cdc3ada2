-- A ledger that plain reading accepts, its postings of a month, and what their listing comes to.
use Rattle.std.specs.Prelude.{ℕ, ◌*◌, ◌≡◌, Bool, List, [], length, None, Option, Some}
use Rattle.text.specs.Every.{Every}
use Rattle.row.specs.declared.table.Row.{Row}
use Rattle.row.specs.steps.Holding.{Held}
use Rattle.ledger.specs.Plain.{Reading, accepted, denied, plain}
use Rattle.order.specs.Records.{record_width}
use Rattle.order.specs.Order.{said}
use Rattle.order.specs.Groups.{items, counted}
use Rattle.walk.specs.declared.step.Cursor.{Cursor}
use Rattle.walk.specs.Postings.{dated, postings}
use Rattle.walk.specs.steps.Walks.{Stands, Told}
use Rattle.totals.specs.Totals.{Outcome, settled}

pub record Accepted (s : List ℕ) : Type 0 where
  pub rows : List Row
  pub reads : plain s ≡ accepted rows

unfoldable pub rows_of : Reading → List Row
rows_of (accepted rs) = rs
rows_of (denied n p) = []

unfoldable pub month_postings : List ℕ → ℕ → ℕ → List Row
month_postings s y m = postings (dated y m) (rows_of (plain s))

abbrev pub AllHeld : List Row → Type 0
AllHeld rs = Every Held rs

-- in a buffer of so many bytes
unfoldable pub listed_month : List ℕ → ℕ → ℕ → ℕ → Outcome
listed_month s y m room =
    let ps = month_postings s y m in
    let is = items (said s) ps in
    settled (length ps * record_width) room is (counted (λ r. r.start) 0 is)

-- what the next posting tells, and where the walk goes on behind it, where the postings ps were to come
abbrev pub Follows : (ℕ → Bool) → List ℕ → Cursor → Option (Cursor × Row) → List Row → Type 0
Follows wanted s c (Some (d, p)) ps = Told wanted s c (Some (d, Some p)) ps
Follows wanted s c None ps = ps ≡ []

pub record Next (wanted : ℕ → Bool) (s : List ℕ) (c : Cursor) (r : Option (Cursor × Row)) : Type 0 where
  pub tells : (ps : List Row) → Stands wanted s c ps → Follows wanted s c r ps
