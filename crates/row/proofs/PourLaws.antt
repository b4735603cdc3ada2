-- Laws of rows that are poured into a table: those of any width at the row's, and those that divide by it.
use mathlib.Core.Path.{◌≡◌, refl}
use mathlib.Core.List.{List, [], ◌∷◌, ◌++◌}
use Prim.Native.Nat.{ℕ, ◌+◌, ◌*◌, ◌<◌, ◌≤◌}
use native.Mathlib.Omega.{arith}
use lib.ListN.{length, take, drop}
use Rattle.row.specs.Row.{fields_width, field_bytes, width, row_bytes, rows_bytes, room}
use Rattle.row.specs.steps.Pouring.{pour, pour_at}
use Rattle.row.specs.declared.table.Row.{Row}
use Rattle.row.proofs.PouredLaws.{poured_none, poured_short, poured_fits, poured_all, poured_append, poured_head, length_bytes_of, length_poured, length_poured_at, poured_at_none, poured_at_zero, poured_at_short, poured_at_at, poured_at_append, poured_at_over}
pub use Rattle.row.proofs.PouredLaws.{le_or_lt}

pub length_field_bytes : (r : Row) → length (field_bytes r) ≡ fields_width
unfolding field_bytes
length_field_bytes r = refl

pub length_row_bytes : (r : Row) → length (row_bytes r) ≡ width
unfolding row_bytes field_bytes
length_row_bytes r = refl

pub length_rows_bytes : (rs : List Row) → length (rows_bytes rs) ≡ length rs * width
length_rows_bytes = length_bytes_of width row_bytes length_row_bytes

-- ---- rows from the front on

pub pour_none : (t : List ℕ) → pour [] t ≡ t
pour_none = poured_none width row_bytes

pub pour_short : (rs : List Row) (t : List ℕ) → length t < width → pour rs t ≡ t
pour_short = poured_short width row_bytes

pub pour_fits : (r : Row) (rs : List Row) (t : List ℕ) → width ≤ length t → pour (r ∷ rs) t ≡ row_bytes r ++ pour rs (drop width t)
pour_fits = poured_fits width row_bytes

pub length_pour : (rs : List Row) (t : List ℕ) → length (pour rs t) ≡ length t
length_pour = length_poured width row_bytes length_row_bytes

pub pour_all : (rs : List Row) (t : List ℕ) → length rs * width ≤ length t → pour rs t ≡ rows_bytes rs ++ drop (length rs * width) t
pour_all = poured_all width row_bytes

-- the same by the number of rows that a table holds
pub pour_room : (rs : List Row) (t : List ℕ) → length rs ≤ room t → pour rs t ≡ rows_bytes rs ++ drop (length rs * width) t
pour_room rs t h = pour_all rs t (omega arith)

-- ---- rows from row n on

pub length_pour_at : (n : ℕ) (rs : List Row) (t : List ℕ) → length (pour_at n rs t) ≡ length t
length_pour_at = length_poured_at width row_bytes length_row_bytes

pub pour_at_none : (n : ℕ) (t : List ℕ) → pour_at n [] t ≡ t
pour_at_none = poured_at_none width row_bytes

pub pour_at_zero : (rs : List Row) (t : List ℕ) → pour_at 0 rs t ≡ pour rs t
pour_at_zero = poured_at_zero width row_bytes

-- past the room nothing is written
pub pour_at_full : (n : ℕ) (rs : List Row) (t : List ℕ) → room t ≤ n → pour_at n rs t ≡ t
pour_at_full n rs t h = poured_at_short width row_bytes n rs t (omega arith)

pub pour_at_at : (n : ℕ) (rs : List Row) (t : List ℕ) → n * width ≤ length t → pour_at n rs t ≡ take (n * width) t ++ pour rs (drop (n * width) t)
pour_at_at = poured_at_at width row_bytes

-- rows, and then those behind them
pub pour_at_append : (xs ys : List Row) (n : ℕ) (t : List ℕ) → pour_at n (xs ++ ys) t ≡ pour_at (n + length xs) ys (pour_at n xs t)
pour_at_append = poured_at_append width row_bytes length_row_bytes

pub pour_append : (xs ys : List Row) (t : List ℕ) → pour (xs ++ ys) t ≡ pour_at (length xs) ys (pour xs t)
pour_append = poured_append width row_bytes length_row_bytes

-- rows over others
pub pour_at_over : (n : ℕ) (ys xs : List Row) (t : List ℕ) → pour_at n ys (pour_at n xs t) ≡ pour_at n (ys ++ drop (length ys) xs) t
pour_at_over = poured_at_over width row_bytes length_row_bytes

-- ---- an entry's row, and its details behind it

-- a head row that is written last, before rows that stand behind it
pub head_last : (r : Row) (rs : List Row) (t : List ℕ) → pour (r ∷ []) (pour_at 1 rs t) ≡ pour (r ∷ rs) t
head_last = poured_head width row_bytes length_row_bytes
