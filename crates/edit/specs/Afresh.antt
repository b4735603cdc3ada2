-- M-109's claims: given the old ledger's rows, an edit does what recovering reading of the new ledger does, and so does
-- any sequence of edits. Rows before the block keep their bytes.
use Rattle.std.specs.Prelude.{ℕ, ◌*◌, ◌<◌, ◌≤◌, ◌≡◌, true, List, [], ◌∷◌, length, get_or, take, Ok}
use Rattle.text.specs.Permitted.{size_limit}
use Rattle.row.specs.declared.table.Row.{Row}
use Rattle.row.specs.Row.{width, row_bytes, rows_bytes, row_in, rows_in, room}
use Rattle.ledger.specs.Plain.{accepted}
use Rattle.ledger.specs.Answers.{answer, left}
use Rattle.recovery.specs.Recovering.{recovered}
use Rattle.edit.specs.Edits.{is_block, is_new, edited, before, edit_rows, editing}

-- ---- on lists

-- the block from a to e of s may be replaced by y
pub record Edit (s : List ℕ) (a e : ℕ) (y : List ℕ) : Type 0 where
  pub block : is_block s a e ≡ true
  pub bytes : is_new s a e y ≡ true
  pub size : length s ≤ size_limit
  pub new_size : length (edited s a e y) ≤ size_limit

-- the rows of the answer, where those of rs are given by their bytes
abbrev pub edited_rows : List ℕ → ℕ → ℕ → List ℕ → List Row → List Row
edited_rows s a e y rs = edit_rows s a e y (rows_in (length rs) (rows_bytes rs))

-- with the old ledger's rows rs they have the bytes of the new ledger's rows
abbrev pub Afresh : Type 0
Afresh =
    (s : List ℕ) (a e : ℕ) (y : List ℕ) (rs : List Row) → Edit s a e y → recovered s ≡ accepted rs
    → (ns : List Row) × (recovered (edited s a e y) ≡ accepted ns) × (rows_bytes (edited_rows s a e y rs) ≡ rows_bytes ns)

-- and the new ledger's table starts with the bytes of the old rows that start before the block
abbrev pub BeforeStay : Type 0
BeforeStay =
    (s : List ℕ) (a e : ℕ) (y : List ℕ) (rs ns : List Row) → Edit s a e y → recovered s ≡ accepted rs → recovered (edited s a e y) ≡ accepted ns
    → take (length (before a rs) * width) (rows_bytes ns) ≡ take (length (before a rs) * width) (rows_bytes rs)

-- whatever bytes a row has, if it is kept it has those
abbrev pub KeepsBytes : Type 0
KeepsBytes = (t : List ℕ) → width ≤ length t → ((i : ℕ) → get_or t i 0 < 256) → row_bytes (row_in t) ≡ take width t

-- ---- as calls see it

-- the first k rows of the table t are those of recovering reading of s
pub record RowsOf (s : List ℕ) (k : ℕ) (t : List ℕ) : Type 0 where
  pub rows : List Row
  pub read : recovered s ≡ accepted rows
  pub count : k ≡ length rows
  pub bytes : take (k * width) t ≡ rows_bytes rows

-- the call answers, and leaves of any table, what recovering reading of the new ledger does
abbrev pub AfreshCall : Type 0
AfreshCall =
    (s : List ℕ) (k : ℕ) (t : List ℕ) (a e : ℕ) (y : List ℕ) → RowsOf s k t → Edit s a e y
    → ((room : ℕ) → answer (editing s t k a e y) room ≡ answer (recovered (edited s a e y)) room)
    × ((u : List ℕ) → left (editing s t k a e y) u ≡ left (recovered (edited s a e y)) u)

-- a call: the block from start to end is replaced, and the rows go to a table
pub record Call : Type 0 where
  pub start : ℕ
  pub end : ℕ
  pub new : List ℕ
  pub table : List ℕ

-- calls one after the other, each accepted: each gets the ledger as it is then, with the rows that the call before it
-- left; at last there is the ledger z with m rows in the table v
abbrev pub Accepted : List Call → List ℕ → ℕ → List ℕ → List ℕ → ℕ → List ℕ → Type 0
Accepted [] s k t z m v = (z ≡ s) × (m ≡ k) × (v ≡ t)
Accepted (c ∷ cs) s k t z m v =
    let call = editing s t k c.start c.end c.new in
    (n : ℕ) × (answer call (room c.table) ≡ Ok n)
    × Accepted cs (edited s c.start c.end c.new) n (left call c.table) z m v

-- then that table has the rows of recovering reading of that ledger
abbrev pub AllAfresh : Type 0
AllAfresh =
    (cs : List Call) (s : List ℕ) (k : ℕ) (t z : List ℕ) (m : ℕ) (v : List ℕ) → RowsOf s k t → Accepted cs s k t z m v → RowsOf z m v
