-- Rows that are written with no line, and then get their lines.
use Prim.Native.Nat.{ℕ, ◌+◌, ◌≤◌}
use native.Mathlib.Nat.{zero-add}
use native.Mathlib.Omega.{arith}
use mathlib.Core.Path.{◌≡◌, refl, sym, ◌∙◌, ap}
use mathlib.Core.List.{List, [], ◌∷◌, map}
use borrow.Author.Tests.{le-leb}
use lib.ListN.{length, take, length-map}
use Rattle.text.specs.Permitted.{size_limit}
use Rattle.text.specs.Every.{Every}
use Rattle.row.specs.declared.table.Row.{Row}
use Rattle.row.specs.Row.{feeds, room}
use Rattle.row.specs.steps.Sweep.{lined, lines_set}
use Rattle.row.specs.steps.Pouring.{pour}
use Rattle.row.proofs.PourLaws.{pour_room}
use Rattle.row.proofs.SweepLaws.{Low, lines_poured}
use Rattle.entry.proofs.EntryLines.{OnLine}
use Rattle.ledger.specs.Plain.{accepted}
use Rattle.ledger.specs.Answers.{left}
use Rattle.ledger.specs.steps.Scan.{with_line}
use Rattle.ledger.proofs.PlainLaws.{Kept}

-- a line that is set does not see what stood there before
lined_again : (s : List ℕ) (l : ℕ) (rs : List Row) → map (lined s) (map (with_line l) rs) ≡ map (lined s) rs
unfolding lined
lined_again s l [] = refl
lined_again s l (r ∷ rs) = rw (lined_again s l rs)

module _ (top : ℕ) (s : List ℕ) where
  line_of : (r : Row) → OnLine top 0 1 s r → 1 + feeds (take r.start s) ≡ r.line
  line_of r h = ap (λ k. 1 + feeds (take k s)) (h.place ∙ zero-add h.into) ∙ sym h.lines

  rows_lined : (rs : List Row) → Every (OnLine top 0 1 s) rs → map (lined s) rs ≡ rs
  unfolding lined
  rows_lined [] h = refl
  rows_lined (r ∷ rs) (h, hs) = rw (line_of r h, rows_lined rs hs)

  rows_low : (rs : List Row) → length s ≤ size_limit → Every (OnLine top 0 1 s) rs → Low (map (with_line 0) rs)
  rows_low [] l h = tt
  rows_low (r ∷ rs) l (h, hs) = (omega (arith, h.place, h.inside), rows_low rs l hs)

  pub lines_left : (rs : List Row) (t : List ℕ) → Kept top 0 1 s rs → length s ≤ size_limit → length rs ≤ room t
      → lines_set s (length rs) (pour (map (with_line 0) rs) t) ≡ left (accepted rs) t
  unfolding left
  lines_left rs t k l h =
      let n : length rs ≡ length (map (with_line 0) rs) = sym (length-map rs (with_line 0)) in
      ap (λ k. lines_set s k (pour (map (with_line 0) rs) t)) n
      ∙ lines_poured s (map (with_line 0) rs) t (rows_low rs l k.lines)
      ∙ rw (lined_again s 0 rs, rows_lined rs k.lines, pour_room rs t h, le-leb (length rs) (room t) h)
