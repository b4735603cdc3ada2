-- A scan of a ledger, entry by entry: what the code answers, and the rows that it leaves in a table, with no lines yet.
use Rattle.text.specs.Refusals.{refused_with}
use Rattle.text.specs.declared.stop.Refused.{Refused}
use Rattle.std.specs.Prelude.{ℕ, ◌+◌, List, map, length, Err, Ok, Result, None, Option, Some}
use Rattle.row.specs.declared.table.Row.{Row}
use Rattle.row.specs.steps.Writing.{Poured}
use Rattle.ledger.specs.declared.strict.Objection.{Objection}
use Rattle.ledger.specs.Plain.{Reading, accepted, denied, moved, read_from, part_at, part}
use Rattle.ledger.specs.Strict.{strictly}
use Rattle.ledger.specs.declared.scan.Profile.{Profile}
use Rattle.ledger.specs.declared.scan.Profile.TheVariants.{Plain, Strict}

abbrev pub with_line : ℕ → Row → Row
with_line l r = record { kind = r.kind; start = r.start; end = r.end; line = l; p = r.p; q = r.q; bits = r.bits }

-- the entries of a text that starts at place a of a ledger
unfoldable pub scanned : ℕ → List ℕ → Reading
scanned a s = read_from (length s) a 1 s

-- a reading of a text that stands a bytes and l lines further on
abbrev pub moved_reading : ℕ → ℕ → Reading → Reading
moved_reading a l (accepted rs) = accepted (moved a l rs)
moved_reading a l (denied n p) = denied n (a + p)

-- the same in a profile: the strict one judges a text by itself
abbrev pub scanned_by : Profile → ℕ → List ℕ → Reading
scanned_by Plain a s = scanned a s
scanned_by Strict a s = moved_reading a 0 (strictly s (scanned 0 s))

abbrev pub part_at_by : Profile → ℕ → List ℕ → Reading
part_at_by Plain a s = part_at a 1 s
part_at_by Strict a s = moved_reading a 0 (strictly s (part s))

-- the objection that is held, or else o, of an entry at a place
unfoldable pub first_of : Option Objection → ℕ → Option Objection → Option Objection
first_of (Some h) at o = Some h
first_of None at (Some o) = Some (record { number = o.number; place = at + o.place })
first_of None at None = None

unfoldable pub noted_by : Profile → Option Objection → ℕ → Option Objection → Option Objection
noted_by Plain h at o = h
noted_by Strict h at o = first_of h at o

-- so many rows, unless an objection is held
unfoldable pub ended_scan : ℕ → ℕ → Option Objection → Result ℕ Refused
ended_scan a n None = Ok n
ended_scan a n (Some h) = Err (refused_with h.number (a + h.place) 0)

unfoldable pub scan_answer : Reading → Result ℕ Refused
scan_answer (accepted rs) = Ok (length rs)
scan_answer (denied n p) = Err (refused_with n p 0)

-- the table after a scan, unless it is refused: the rows, and maybe others behind them
abbrev pub ScanPoured : Reading → List ℕ → List ℕ → Type 0
ScanPoured (accepted rs) t u = Poured 0 (map (with_line 0) rs) t u
ScanPoured (denied n p) t u = Unit {0}
