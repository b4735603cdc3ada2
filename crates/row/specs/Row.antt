-- The row table: a row, its bytes, room, and line feeds.
use Rattle.std.specs.Prelude.{ℕ, zero, suc, ◌+◌, ◌/◌, cond, List, [], ◌∷◌, ◌++◌, eqb, ℤ, length, take, drop}
use Prim.Native.Char.{code}
use Rattle.decimal.specs.Exact.{twos_of}
use Rattle.row.specs.declared.table.Row.{Row}
use Rattle.row.specs.Field.{le, un}

-- a row of document 01: kind, start, end, line, p, q, value
unfoldable pub row_of : ℕ → ℕ → ℕ → ℕ → ℕ → ℕ → ℤ → Row
row_of k a e l p q v = record { kind = k; start = a; end = e; line = l; p = p; q = q; bits = twos_of v }

-- ---- the fields: kind, start, end, line, p, q in four bytes each, then the value in eight, signed; little-endian

-- where each starts
abbrev pub at_kind : ℕ
at_kind = 0

abbrev pub at_start : ℕ
at_start = 4

abbrev pub at_end : ℕ
at_end = 8

abbrev pub at_line : ℕ
at_line = 12

abbrev pub at_p : ℕ
at_p = 16

abbrev pub at_q : ℕ
at_q = 20

abbrev pub at_value : ℕ
at_value = 24

-- the bytes of all
abbrev pub fields_width : ℕ
fields_width = 32

unfoldable pub field_bytes : Row → List ℕ
field_bytes r =
    le 4 r.kind ++ (le 4 r.start ++ (le 4 r.end ++ (le 4 r.line ++ (le 4 r.p ++ (le 4 r.q ++ le 8 r.bits)))))

-- the row whose fields stand at the front of some bytes
unfoldable pub fields_in : List ℕ → Row
fields_in t =
    record {
      kind = un (take 4 (drop at_kind t));
      start = un (take 4 (drop at_start t));
      end = un (take 4 (drop at_end t));
      line = un (take 4 (drop at_line t));
      p = un (take 4 (drop at_p t));
      q = un (take 4 (drop at_q t));
      bits = un (take 8 (drop at_value t));
    }

-- ---- a row's bytes: its fields

abbrev pub width : ℕ
width = fields_width

unfoldable pub row_bytes : Row → List ℕ
row_bytes r = field_bytes r

-- the bytes of things, which f gives, one after the other
unfoldable pub bytes_of : {A : Type 0} → (A → List ℕ) → List A → List ℕ
bytes_of f [] = []
bytes_of f (x ∷ xs) = f x ++ bytes_of f xs

abbrev pub rows_bytes : List Row → List ℕ
rows_bytes rs = bytes_of row_bytes rs

-- the row whose bytes stand at the front of a table
unfoldable pub row_in : List ℕ → Row
row_in t = fields_in t

-- the first k rows of a table
unfoldable pub rows_in : ℕ → List ℕ → List Row
rows_in zero t = []
rows_in (suc k) t = row_in t ∷ rows_in k (drop width t)

-- ---- the table

-- room is a table's length divided by the row's width
abbrev pub room : List ℕ → ℕ
room t = length t / width

-- ---- lines

-- the line feeds of a text
unfoldable pub feeds : List ℕ → ℕ
feeds [] = 0
feeds (b ∷ s) = cond (eqb b (code "\n")) 1 0 + feeds s
