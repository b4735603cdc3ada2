-- The rows of an entry as they are written, with line 0: its own row, and its details laid from its place.
use Prim.Native.Nat.{ℕ, ◌+◌}
use native.Mathlib.Nat.{add-zero}
use mathlib.Core.Path.{◌≡◌, refl}
use mathlib.Core.List.{List, [], ◌∷◌, map}
use lib.IntN.{pos}
use lib.ListN.{length, take}
use Rattle.text.specs.Answer.{To}
use Rattle.amount.specs.declared.detail.Detail.{Detail}
use Rattle.row.specs.Row.{row_of}
use Rattle.row.specs.steps.Writing.{laid}
use Rattle.entry.specs.Forms.{Form, form_of}
use Rattle.entry.specs.Entry.{detail_row, rows_of}
use Rattle.entry.proofs.EntryTold.{form_kind}
use Rattle.ledger.specs.Plain.{move, moved}
use Rattle.ledger.specs.steps.Scan.{with_line}

details_laid : (a l : ℕ) (u : List ℕ) (ds : List Detail) → map (with_line 0) (moved a l (map (detail_row u) ds)) ≡ map (laid a) ds
unfolding move detail_row laid row_of
details_laid a l u [] = refl
details_laid a l u (d ∷ ds) = rw (details_laid a l u ds)

pub entry_laid : (a l : ℕ) (s : List ℕ) (n : ℕ) (f : Form) → form_of s ≡ To n f
    → map (with_line 0) (moved a l (rows_of s n f)) ≡ row_of f.kind a (a + n) 0 f.date (length f.details) (pos 0) ∷ map (laid a) f.details
unfolding rows_of move row_of
entry_laid a l s n f e = rw (form_kind s n f e, add-zero a, details_laid a l (take n s) f.details)
