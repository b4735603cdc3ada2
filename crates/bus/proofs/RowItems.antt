-- The items of rows as a table holds them: a row's own bytes decide, not what stands behind them.
use Prim.Native.Nat.{ℕ, ◌+◌, ◌-◌, ◌≤◌}
use native.Mathlib.Omega.{arith}
use mathlib.Core.Path.{◌≡◌, refl}
use mathlib.Core.List.{List, [], ◌∷◌, ◌++◌, append_assoc, map}
use borrow.Author.Tests.{le-leb}
use lib.ListN.{length, drop, length-append, length-drop}
use lib.Seq.{take_at, drop_at, take-append-le, drop-append-le, take_all}
use Rattle.row.specs.declared.table.Row.{Row}
use Rattle.row.specs.Field.{field_at}
use Rattle.row.specs.Row.{row_bytes, rows_bytes, width, bytes_of}
use Rattle.row.proofs.PourLaws.{length_row_bytes}
use Rattle.access.specs.Tables.{row_at}
use Rattle.bus.specs.Writing.{text_of}
use Rattle.bus.specs.Back.{item_of, items}

-- a field that lies in the front is not changed by what stands behind
field_front : (x rest : List ℕ) (at : ℕ) → at + 4 ≤ length x → field_at (x ++ rest) at 4 ≡ field_at x at 4
field_front x rest at h =
    let n = length-append x rest in
    rw (
      le-leb at (length x) (omega arith),
      le-leb 4 (length x - at) (omega arith),
      le-leb at (length (x ++ rest)) (omega arith),
      le-leb 4 (length (x ++ rest) - at) (omega arith),
      drop-append-le at x rest (omega arith),
      take-append-le 4 (drop at x) rest (rw length-drop (omega arith)),
    )

item_front : (s x rest : List ℕ) → length x ≡ width → item_of s (x ++ rest) ≡ item_of s x
unfolding item_of text_of row_at
item_front s x rest h =
    rw (
      take_at x rest width h,
      take_all width x (omega arith),
      field_front x rest 0 (omega arith),
      field_front x rest 4 (omega arith),
      field_front x rest 8 (omega arith),
    )

pub items_rows : (s : List ℕ) (rows : List Row) (rest : List ℕ) → items s (length rows) (rows_bytes rows ++ rest) ≡ map (λ row. item_of s (row_bytes row)) rows
unfolding items bytes_of
items_rows s [] rest = refl
items_rows s (r ∷ rows) rest =
    rw (
      append_assoc (row_bytes r) (rows_bytes rows) rest,
      item_front s (row_bytes r) (rows_bytes rows ++ rest) (length_row_bytes r),
      drop_at (row_bytes r) (rows_bytes rows ++ rest) width (length_row_bytes r),
      items_rows s rows rest,
    )
