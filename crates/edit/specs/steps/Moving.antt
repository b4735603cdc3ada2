-- Rows picked and moved one by one, rows moved where they stand, and the parts of the answer.
use Rattle.text.specs.declared.stop.Refused.{Refused}
use Rattle.text.specs.Refusals.{refused_with}
use Rattle.std.specs.Prelude.{ℕ, zero, suc, ◌+◌, ◌-◌, ◌*◌, ◌≤◌, ◌≡◌, Bool, true, false, cond, ◌||◌, ◌&&◌, List, [], ◌∷◌, ◌++◌, eqb, ltb, leb, length, take, drop, Err, Ok, Result}
use Rattle.text.specs.Permitted.{size_limit}
use Rattle.row.specs.declared.table.Row.{Row}
use Rattle.row.specs.Row.{width, row_bytes, row_in, feeds, room}
use Rattle.row.specs.Field.{field_limit}
use Rattle.recovery.specs.Recovering.{recover_from}
use Rattle.edit.specs.Edits.{is_block, is_new, distance, shift, grows}
use Rattle.edit.specs.declared.moves.By.{By}
use Rattle.edit.specs.declared.pick.Pick.{Pick}
use Rattle.edit.specs.declared.reread.Plan.{Plan}
use Rattle.edit.specs.declared.reread.Counts.{Counts}

-- ---- moving

-- a field's number and a distance fit into 64 bits
pub record Small (b : By) : Type 0 where
  pub places : b.places ≤ field_limit + field_limit
  pub lines : b.lines ≤ field_limit + field_limit

abbrev pub shift_by : By → Row → Row
shift_by b r = shift b.places b.lines r

-- the first n rows of a table are moved where they stand
unfoldable pub moved_in : By → ℕ → List ℕ → List ℕ
moved_in b zero t = t
moved_in b (suc n) t = row_bytes (shift_by b (row_in t)) ++ moved_in b n (drop width t)

-- ---- picking

-- whether a row with that start is picked: one before the bound, or one there and later
unfoldable pub picks : Pick → ℕ → Bool
picks p start = cond p.behind (leb p.bound start) (ltb start p.bound)

-- a row, if it is picked; one behind is moved
unfoldable pub picked : Pick → Row → List Row
picked p r = cond (picks p r.start) (cond p.behind (shift_by p.by r) r ∷ []) []

unfoldable pub picked_rows : Pick → ℕ → List ℕ → List Row
picked_rows p zero t = []
picked_rows p (suc k) t = picked p (row_in t) ++ picked_rows p k (drop width t)

-- so many rows stand in the table that is given
pub record Given (p : Pick) (k : ℕ) (t : List ℕ) : Type 0 where
  pub there : k * width ≤ length t
  pub small : Small p.by

-- ---- the answer in three parts

-- the block is a part of the ledger, and neither the ledger nor the new bytes are too many
pub record Within (s : List ℕ) (a e : ℕ) (y : List ℕ) : Type 0 where
  pub first : a ≤ e
  pub inside : e ≤ length s
  pub size : length s ≤ size_limit
  pub new : length y ≤ size_limit

abbrev pub pick : Bool → ℕ → By → Pick
pick behind bound by = record { behind = behind; bound = bound; by = by }

abbrev pub by : ℕ → ℕ → By
by d l = record { places = d; lines = l }

-- how far the rows behind a block are moved
abbrev pub by_of : List ℕ → ℕ → ℕ → List ℕ → By
by_of s a e y = by (distance (e - a) (length y)) (distance (feeds (take (e - a) (drop a s))) (feeds y))

-- of k rows, those before the block, those behind it (of none where it is last), and the new bytes' rows at its place
-- and lines
unfoldable pub plan_of : List ℕ → ℕ → ℕ → ℕ → List ℕ → Plan
plan_of s k a e y =
    record {
      before = pick false a (by 0 0);
      given = k;
      start = a;
      lines = feeds (take a s);
      behind = pick true e (by_of s a e y);
      rest = cond (eqb e (length s)) 0 k;
    }

abbrev pub before_rows : Plan → List ℕ → List Row
before_rows p t = picked_rows p.before p.given t

abbrev pub new_rows : Plan → List ℕ → List Row
new_rows p y = recover_from (length y) p.start p.lines y

abbrev pub behind_rows : Plan → List ℕ → List Row
behind_rows p t = picked_rows p.behind p.rest t

unfoldable pub plan_rows : Plan → List ℕ → List ℕ → List Row
plan_rows p t y = before_rows p t ++ (new_rows p y ++ behind_rows p t)

-- what the code may rely on: the rows are there, and no number is large
pub record Ready (p : Plan) (t y : List ℕ) : Type 0 where
  pub before : Given p.before p.given t
  pub behind : Given p.behind p.rest t
  pub new : length y ≤ size_limit
  pub start : p.start ≤ size_limit
  pub lines : p.lines ≤ size_limit

-- the n rows of the new bytes fit into a part of the table
pub record Fresh (y : List ℕ) (n base lines : ℕ) (part : List ℕ) : Type 0 where
  pub size : length y ≤ size_limit
  pub count : n ≡ length (recover_from (length y) 0 0 y)
  pub room : n * width ≤ length part
  pub start : base ≤ size_limit
  pub feeds : lines ≤ size_limit

-- how many rows each part has
pub record Counted (p : Plan) (t y : List ℕ) (c : Counts) : Type 0 where
  pub before : c.before ≡ length (before_rows p t)
  pub new : c.new ≡ length (recover_from (length y) 0 0 y)
  pub behind : c.behind ≡ length (behind_rows p t)

-- ---- refusals before 9

unfoldable pub allowed : List ℕ → List ℕ → ℕ → ℕ → ℕ → List ℕ → Result Unit Refused
allowed s t k a e y =
    cond (ltb size_limit (length s) || grows s a e y) (Err (refused_with 1 0 0))
    (cond (is_block s a e && (leb k (room t) && is_new s a e y)) (Ok tt) (Err (refused_with 10 0 0)))
