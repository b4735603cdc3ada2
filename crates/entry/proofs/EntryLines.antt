-- The rows of an entry stand on their lines: where a row starts k bytes into the entry, its line is the line feeds in
-- these bytes. One starts where the entry ends only in mid-line, none ends behind it, and kinds are below that of a
-- refusal row.
use Prim.Native.Nat.{ℕ, zero, suc, ◌+◌, ◌-◌, ◌≤◌, ◌<◌}
use native.Mathlib.Omega.{arith}
use mathlib.Core.Path.{◌≡◌, refl}
use mathlib.Core.List.{List, [], ◌∷◌, map}
use lib.ListN.{length, take}
use lib.Seq.{length-take-le, get_or-take}
use Rattle.text.specs.Every.{Every}
use Rattle.amount.specs.declared.detail.Detail.{Detail}
use Rattle.amount.proofs.RowCounts.{refusal_kind, any_kinds, mid_line, Rising}
use Rattle.row.specs.declared.table.Row.{Row}
use Rattle.row.specs.Row.{row_of, feeds}
use Rattle.entry.specs.Entry.{detail_row, rows_of, got, entry_of}
use Rattle.entry.proofs.EntryForms.{entry_form, entry_sound}
use Rattle.entry.proofs.EntryTold.{form_placed, form_kind_low}

-- a row of a kind below `top` in a text that starts at place a and line l
pub record OnLine (top a l : ℕ) (s : List ℕ) (r : Row) : Type 0 where
  pub into : ℕ
  pub inside : into ≤ length s
  pub early : into < length s + mid_line s into
  pub place : r.start ≡ a + into
  pub lines : r.line ≡ l + feeds (take into s)
  pub ends : r.end ≤ a + length s
  pub kind : r.kind < top

pub rising_le : (s : List ℕ) (k j : ℕ) (ds : List Detail) → Rising any_kinds s k j ds → k ≤ j
rising_le s k j [] r = r
rising_le s k j (d ∷ ds) r = omega (arith, r.0, rising_le s d.start j ds r.2)

-- the byte before a place of a part's
mid_taken : (n i : ℕ) (s : List ℕ) → i ≤ n → mid_line (take n s) i ≡ mid_line s i
unfolding mid_line
mid_taken n zero s h = refl
mid_taken n (suc i) s h = let z : suc i - 1 ≡ i = omega arith in rw (z, get_or-take n s i 0 (omega arith))

details_lines : (s : List ℕ) (n k : ℕ) (ds : List Detail) → n ≤ length s → Rising any_kinds s k n ds → Every (OnLine refusal_kind 0 0 (take n s)) (map (detail_row (take n s)) ds)
unfolding detail_row row_of
details_lines s n k [] h r = tt
details_lines s n k (d ∷ ds) h r =
    let le = rising_le s d.start n ds r.2 in
    let len = length-take-le n s h in (
      record {
        into = d.start;
        inside = omega arith;
        early = rw (mid_taken n d.start s le) (omega (arith, r.0));
        place = omega arith;
        lines = omega arith;
        ends = omega (arith, r.0);
        kind = omega (arith, r.0);
      },
      details_lines s n d.start ds h r.2,
    )

pub entry_lines : (s : List ℕ) (n : ℕ) (rs : List Row) → entry_of s ≡ got n rs → Every (OnLine refusal_kind 0 0 (take n s)) rs
unfolding rows_of row_of feeds
entry_lines s n rs e =
    let f = entry_form s n rs e in
    let k = entry_sound s n rs e in
    let r = (form_placed s n f.0 f.1).0 in
    let len = length-take-le n s k.1 in
    rw f.2 (
      record {
        into = 0;
        inside = omega arith;
        early = omega (arith, k.0);
        place = omega arith;
        lines = omega arith;
        ends = omega arith;
        kind = omega (arith, form_kind_low s n f.0 f.1);
      },
      details_lines s n 1 f.0.details k.1 r,
    )
