-- Plain reading.
use Rattle.std.specs.Prelude.{ℕ, zero, suc, ◌+◌, cond, List, [], ◌∷◌, ◌++◌, map, leb, ltb, length, take, drop}
use Rattle.text.specs.Permitted.{clean, size_limit}
use Rattle.row.specs.declared.table.Row.{Row}
use Rattle.row.specs.Row.{feeds}
use Rattle.row.specs.Details.{spanned}
use Rattle.entry.specs.Entry.{got, refuse, entry_of}

-- a row, a bytes and l lines further on
unfoldable pub move : ℕ → ℕ → Row → Row
move a l r =
    record {
      kind = r.kind;
      start = a + r.start;
      end = a + r.end;
      line = l + r.line;
      p = cond (spanned r.kind) (a + r.p) r.p;
      q = cond (spanned r.kind) (a + r.q) r.q;
      bits = r.bits;
    }

abbrev pub moved : ℕ → ℕ → List Row → List Row
moved a l rs = map (move a l) rs

-- a reading: its rows, or the number and the place of a refusal
pub data Reading : Type 0 where
  accepted : List Row → Reading
  denied : ℕ → ℕ → Reading

abbrev pub after : List Row → Reading → Reading
after ds (accepted rs) = accepted (ds ++ rs)
after ds (denied n p) = denied n p

-- entry by entry, from place a and line l on; f bounds how many
unfoldable pub read_from : ℕ → ℕ → ℕ → List ℕ → Reading
read_from zero a l s = accepted []
read_from (suc f) a l [] = accepted []
read_from (suc f) a l (b ∷ s) =
    elim (entry_of (b ∷ s)) [
      | got n rs ↦ after (moved a l rs) (read_from f (a + n) (l + feeds (take n (b ∷ s))) (drop n (b ∷ s)))
      | refuse k p ↦ denied k (a + p)
    ]

-- the bytes first, then the entries
unfoldable pub part_at : ℕ → ℕ → List ℕ → Reading
part_at a l s = let entries = read_from (length s) a l s in cond (ltb (clean s) (length s)) (denied 2 (a + clean s)) entries

-- places count from 0, and lines from 1
abbrev pub part : List ℕ → Reading
part s = part_at 0 1 s

unfoldable pub plain : List ℕ → Reading
plain s = cond (leb (length s) size_limit) (part s) (denied 1 0)
