-- The lines of rows that stand in a table already. A law shows that they are the lines of the rows.
use Rattle.std.specs.Prelude.{ℕ, zero, suc, ◌+◌, ◌≤◌, ◌≡◌, cond, List, ◌++◌, leb, length, take, drop}
use Rattle.text.specs.Bytes.{in_line}
use Rattle.text.specs.Run.{run_to}
use Rattle.row.specs.declared.lines.Line.{Line}
use Rattle.row.specs.declared.table.Row.{Row}
use Rattle.row.specs.Field.{le, un}
use Rattle.row.specs.Row.{at_start, at_line, at_p, width, feeds}

-- a line of s, which the code keeps beside the rows: it ends where the run of a line's bytes does, and has its number
abbrev pub LineOf : List ℕ → Line → Type 0
LineOf s l = (l.from ≤ length s) × (l.stop ≡ run_to in_line s l.from) × (l.number ≡ 1 + feeds (take l.from s))

-- the bytes of a row with its line: one plus the line feeds of s before the start that stands in the row
unfoldable pub line_set : List ℕ → List ℕ → List ℕ
line_set s r = take at_line r ++ (le 4 (1 + feeds (take (un (take 4 (drop at_start r))) s)) ++ drop at_p r)

-- the same of the first n rows of a table, each where a whole row is there
unfoldable pub lines_set : List ℕ → ℕ → List ℕ → List ℕ
lines_set s zero t = t
lines_set s (suc n) t = cond (leb width (length t)) (line_set s (take width t) ++ lines_set s n (drop width t)) t

-- a row with its line: one plus the line feeds before its start
unfoldable pub lined : List ℕ → Row → Row
lined s r = record { kind = r.kind; start = r.start; end = r.end; line = 1 + feeds (take r.start s); p = r.p; q = r.q; bits = r.bits }
