-- Rows stand in order of start, from k to j.
use Prim.Native.Nat.{ℕ, ◌+◌, ◌≤◌}
use native.Mathlib.Omega.{arith}
use mathlib.Core.Path.{◌≡◌}
use mathlib.Core.List.{List, [], ◌∷◌, ◌++◌, map}
use lib.ListN.{take}
use Rattle.amount.specs.declared.detail.Detail.{Detail}
use Rattle.amount.proofs.RowCounts.{any_kinds, Rising}
use Rattle.row.specs.declared.table.Row.{Row}
use Rattle.row.specs.Row.{row_of}
use Rattle.entry.specs.Entry.{detail_row, rows_of, got, entry_of}
use Rattle.entry.proofs.EntryForms.{entry_form}
use Rattle.entry.proofs.EntryTold.{form_placed}
use Rattle.ledger.specs.Plain.{move, moved}

abbrev pub Rises : ℕ → ℕ → List Row → Type 0
Rises k j [] = k ≤ j
Rises k j (r ∷ rs) = (k ≤ r.start) × Rises r.start j rs

rises_wide : (k l j : ℕ) (rs : List Row) → l ≤ k → Rises k j rs → Rises l j rs
rises_wide k l j [] h r = omega arith
rises_wide k l j (x ∷ rs) h r = (omega (arith, r.0), r.1)

pub rises_append : (k j l : ℕ) (xs ys : List Row) → Rises k j xs → Rises j l ys → Rises k l (xs ++ ys)
rises_append k j l [] ys p q = rises_wide j k l ys p q
rises_append k j l (r ∷ xs) ys p q = (p.0, rises_append r.start j l xs ys p.1 q)

pub rises_moved : (a l k j : ℕ) (rs : List Row) → Rises k j rs → Rises (a + k) (a + j) (moved a l rs)
unfolding move
rises_moved a l k j [] h = omega arith
rises_moved a l k j (r ∷ rs) h = (omega (arith, h.0), rises_moved a l r.start j rs h.1)

details_rise : (s : List ℕ) (k j : ℕ) (u : List ℕ) (ds : List Detail) → Rising any_kinds s k j ds → Rises k j (map (detail_row u) ds)
unfolding detail_row row_of
details_rise s k j u [] h = h
details_rise s k j u (d ∷ ds) h = (h.0.0, details_rise s d.start j u ds h.2)

pub entry_rises : (s : List ℕ) (n : ℕ) (rs : List Row) → entry_of s ≡ got n rs → Rises 0 n rs
unfolding rows_of row_of
entry_rises s n rs e =
    let f = entry_form s n rs e in
    rw f.2 (
      omega arith,
      rises_wide 1 0 n (map (detail_row (take n s)) f.0.details) (omega arith) (details_rise s 1 n (take n s) f.0.details (form_placed s n f.0 f.1).0),
    )
