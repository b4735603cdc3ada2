-- An entry that was read: its own row, what the code answers, and the rows that it leaves in a table.
use Rattle.decimal.specs.Faults.{number_of}
use Rattle.decimal.specs.declared.Fault.{Fault}
use Rattle.text.specs.Refusals.{refused_with}
use Rattle.entry.specs.declared.entry.Entry.{Entry}
use Rattle.text.specs.declared.stop.Refused.{Refused}
use Rattle.std.specs.Prelude.{ℕ, ◌+◌, cond, List, [], ◌∷◌, map, pos, length, Err, Ok, Result, None, Option, Some, is_none}
use Rattle.text.specs.Answer.{Ans, To, Miss, Hard}
use Rattle.row.specs.declared.table.Row.{Row}
use Rattle.row.specs.declared.writer.Out.{Out}
use Rattle.row.specs.Row.{row_of}
use Rattle.row.specs.steps.Pouring.{pour}
use Rattle.row.specs.steps.Writing.{laid, Poured}
use Rattle.entry.specs.Forms.{Form, form_of}
use Rattle.entry.specs.Entry.{Reads, got, refuse}

-- the row of an entry of kind k at base, of n bytes and q details, with no line yet
unfoldable pub own_row : ℕ → ℕ → ℕ → ℕ → ℕ → Row
own_row base k d n q = row_of k base (base + n) 0 d q (pos 0)

-- where the details were written and o is held: the entry's answer, and the table with its own row at the front
unfoldable pub entry_unless : Option (Fault × ℕ) → Entry → Result Entry Refused
entry_unless None e = Ok e
entry_unless (Some (fault, place)) e = Err (refused_with (number_of fault) place 0)

unfoldable pub settled_entry : ℕ → ℕ → Out → Result Entry Refused
settled_entry k n o = entry_unless o.refused (record { kind = k; size = n; rows = o.rows + 1 })

unfoldable pub settled_table : ℕ → ℕ → ℕ → ℕ → Out → List ℕ → List ℕ
settled_table base k d n o t = cond (is_none o.refused) (pour (own_row base k d n o.rows ∷ []) t) t

-- the kind of an entry with these rows
unfoldable pub kind_of : List Row → ℕ
kind_of [] = 0
kind_of (r ∷ rs) = r.kind

-- the code's answer of what an entry reads
unfoldable pub entry_answer : Reads → Result Entry Refused
entry_answer (got n rs) = Ok (record { kind = kind_of rs; size = n; rows = length rs })
entry_answer (refuse k p) = Err (refused_with k p 0)

-- the rows that are written for a form
unfoldable pub form_rows : ℕ → Ans Form → List Row
form_rows base (To n f) = own_row base f.kind f.date n (length f.details) ∷ map (laid base) f.details
form_rows base Miss = []
form_rows base (Hard k p) = []

-- the table after an entry at base: its rows from the front, and maybe others behind them, unless it is refused
abbrev pub EntryPoured : Reads → ℕ → List ℕ → List ℕ → List ℕ → Type 0
EntryPoured (got n rs) base s t u = Poured 0 (form_rows base (form_of s)) t u
EntryPoured (refuse k p) base s t u = Unit {0}
