-- Monthly totals (M-108). For a year and month: each account and currency that has a posting with a stated amount in
-- transactions of that month, by account bytes and then currency bytes, with the exact sum and the number of postings;
-- after them, by account bytes, each account with its postings that state no amount.
use Rattle.text.specs.Refusals.{refused_with}
use Rattle.text.specs.declared.stop.Refused.{Refused}
use Rattle.std.specs.Prelude.{ℕ, ◌*◌, ◌≡◌, Bool, cond, ◌&&◌, List, ◌++◌, map, leb, length, drop, Err, Ok, Result}
use Rattle.decimal.specs.Exact.{twos_of}
use Rattle.row.specs.declared.table.Row.{Row}
use Rattle.row.specs.Work.{cleared}
use Rattle.row.specs.Details.{millionths}
use Rattle.order.specs.Records.{record_width, records_bytes}
use Rattle.ledger.specs.Plain.{Reading, accepted, denied}
use Rattle.order.specs.Order.{said}
use Rattle.order.specs.Groups.{Item, items, counted}
use Rattle.walk.specs.Postings.{dated, postings}

-- the totals of the ledger s, of which rs are plain reading's rows: in order of kind, so stated amounts come first
unfoldable pub totals_of : List ℕ → ℕ → ℕ → List Row → List (Item Row)
totals_of s y m rs = items (said s) (postings (dated y m) rs)

-- an item as a row: its first posting's fields, the number of postings in the line field, the sum as its value
unfoldable pub item_row : Item Row → Row
item_row i =
    let r = i.first in
    record { kind = r.kind; start = r.start; end = r.end; line = i.count; p = r.p; q = r.q; bits = twos_of (millionths i.sum) }

-- ---- a call: what is decided, in the order of its refusals

-- refused with a number, a place and a count before the working spaces are used, or after so many of their bytes were;
-- or items
pub data Outcome : Type 0 where
  early : ℕ → ℕ → ℕ → Outcome
  late : ℕ → ℕ → ℕ → ℕ → Outcome
  gives : ℕ → List Row → Outcome

unfoldable pub is_month : ℕ → Bool
is_month m = leb 1 m && leb m 12

-- what each working space must hold: 32 bytes for each posting of the month, stated or not
unfoldable pub need : ℕ → ℕ → List Row → ℕ
need y m rs = length (postings (dated y m) rs) * record_width

-- 6 at the start of the first item whose sum is too large, then 9 for the room of the items, in bytes
unfoldable pub settled : ℕ → ℕ → List (Item Row) → Result ℕ Refused → Outcome
settled used room is (Ok k) = cond (leb (k * record_width) room) (gives used (map item_row is)) (late used 9 0 (k * record_width))
settled used room is (Err x) = late used x.number x.place x.count

-- plain reading's refusals, 15 for a month outside 1 to 12, 9 at place 1 for a working space that is short, and those;
-- room, work and spare are the lengths of the items' buffer and of the two working spaces
unfoldable pub decided : List ℕ → ℕ → ℕ → ℕ → ℕ → ℕ → Reading → Outcome
decided s y m room work spare (accepted rs) =
    let used = need y m rs in
    let is = totals_of s y m rs in
    let listed = settled used room is (counted (λ r. r.start) 0 is) in
    cond (is_month m) (cond (leb used work && leb used spare) listed (early 9 1 used)) (early 15 0 0)
decided s y m room work spare (denied n p) = early n p 0

-- ---- its answer, and every byte of what it was lent

unfoldable pub answer_of : Outcome → Result ℕ Refused
answer_of (early n p c) = Err (refused_with n p c)
answer_of (late used n p c) = Err (refused_with n p c)
answer_of (gives used rs) = Ok (length rs)

-- a refusal leaves the items' buffer
unfoldable pub items_left : Outcome → List ℕ → List ℕ
items_left (early n p c) t = t
items_left (late used n p c) t = t
items_left (gives used rs) t = records_bytes rs ++ drop (length rs * record_width) t

-- what was used of a working space is zeros
unfoldable pub work_left : Outcome → List ℕ → List ℕ
work_left (early n p c) w = w
work_left (late used n p c) w = cleared used w
work_left (gives used rs) w = cleared used w

-- what a call answers and leaves of the items' buffer and of the two working spaces, t, w and u before it
pub record Done (D : Outcome) (t w u : List ℕ) (r : Result ℕ Refused) (items work spare : List ℕ) : Type 0 where
  pub answer : r ≡ answer_of D
  pub in_items : items ≡ items_left D t
  pub in_work : work ≡ work_left D w
  pub in_spare : spare ≡ work_left D u
