-- Laws of the sweep that sets the lines of rows in a table.
use Prim.Native.Nat.{ℕ, zero, suc, ◌+◌, ◌-◌, ◌*◌, ◌/◌, ◌≤◌, ◌<◌, min}
use native.Mathlib.Decide.{dec_lt}
use native.Mathlib.Nat.{mod-eq_of_lt}
use native.Mathlib.Numerals.{sub-one}
use native.Mathlib.Omega.{arith}
use mathlib.Core.Path.{◌≡◌, refl, ◌∙◌}
use mathlib.Core.Logic.{⊎_elim}
use mathlib.Core.List.{List, [], ◌∷◌, ◌++◌, map, append_assoc}
use borrow.Author.Tests.{le-leb, lt-leb}
use lib.ListN.{length, take, drop, take-append-drop, length-append, length-take, length-drop}
use lib.Seq.{take-append-le, drop-append-le, take_at, drop_at, take-append-add, drop-append-add, sets, sets-eq}
use Rattle.row.specs.Field.{le, un, field_limit}
use Rattle.row.specs.Row.{bytes_of, at_start, at_line, at_p, field_bytes, width, row_bytes, rows_bytes, feeds}
use Rattle.row.specs.steps.Pouring.{pour}
use Rattle.row.specs.steps.Sweep.{lined, LineOf, line_set, lines_set}
use Rattle.row.specs.declared.lines.Line.{Line}
use Rattle.row.specs.declared.table.Row.{Row}
use Rattle.row.proofs.FieldLaws.{un_le}
use Rattle.row.proofs.PourLaws.{le_or_lt, length_row_bytes, pour_none, pour_short, pour_fits}

-- ---- a table, row by row

module _ (s : List ℕ) where
  pub lines_short : (n : ℕ) (t : List ℕ) → length t < width → lines_set s n t ≡ t
  unfolding lines_set
  lines_short zero t h = refl
  lines_short (suc n) t h = rw (lt-leb width (length t) h)

  pub lines_row : (n : ℕ) (z t : List ℕ) → length z ≡ width → lines_set s (suc n) (z ++ t) ≡ line_set s z ++ lines_set s n t
  unfolding lines_set
  lines_row n z t e =
      let h : width ≤ length (z ++ t) = rw length-append (omega arith) in
      rw (le-leb width (length (z ++ t)) h, take_at z t width e, drop_at z t width e)

-- ---- what the code does in a turn

length_line_set : (s z : List ℕ) → length z ≡ width → length (line_set s z) ≡ width
unfolding line_set
length_line_set s z e =
    let L = le 4 (1 + feeds (take (un (take 4 (drop at_start z))) s)) in
    rw (length-append (take at_line z) (L ++ drop at_p z), length-take, length-append L (drop at_p z), length-drop, e)

-- the four bytes of the line are stored in the row at the front
row_stored : (s z t : List ℕ) → length z ≡ width
    → take at_line (z ++ t) ++ (le 4 (1 + feeds (take (un (take 4 (drop at_start (z ++ t)))) s)) ++ drop at_p (z ++ t)) ≡ line_set s z ++ t
unfolding line_set
row_stored s z t e =
    let L = le 4 (1 + feeds (take (un (take 4 (drop at_start z))) s)) in
    rw (
      take-append-le at_line z t (omega arith),
      drop-append-le at_start z t (omega arith),
      take-append-le 4 (drop at_start z) t (rw length-drop (omega arith)),
      drop-append-le at_p z t (omega arith),
      append_assoc (take at_line z) (L ++ drop at_p z) t,
    )

-- the same behind the rows x that were passed
stored_behind : (s x z r : List ℕ) → length z ≡ width
    → sets (x ++ (z ++ r)) (length x + at_line) (le 4 (1 + feeds (take (un (take 4 (drop (length x + at_start) (x ++ (z ++ r))))) s)))
    ≡ (x ++ line_set s z) ++ r
stored_behind s x z r e =
    let t = z ++ r in
    let L = le 4 (1 + feeds (take (un (take 4 (drop at_start t))) s)) in
    let h : length x + at_line + 4 ≤ length (x ++ t) = rw (length-append x t, length-append z r) (omega arith) in
    let i : length x + at_line + 4 ≡ length x + at_p = omega arith in
    rw (
      drop-append-add x t at_start,
      sets-eq L (x ++ t) (length x + at_line) h,
      take-append-add x t at_line,
      i,
      drop-append-add x t at_p,
      append_assoc (x ++ take at_line t) L (drop at_p t),
      append_assoc x (take at_line t) (L ++ drop at_p t),
      row_stored s z r e,
      append_assoc x (line_set s z) r,
    )

-- the same of a table t whose row i is z
stored_at : (s t x z r : List ℕ) (i start number : ℕ) {u : List ℕ} → x ++ (z ++ r) ≡ t → length x ≡ i → length z ≡ width
    → start ≡ un (take 4 (drop (i + at_start) t)) → number ≡ 1 + feeds (take start s) → u ≡ sets t (i + at_line) (le 4 number) → u ≡ (x ++ line_set s z) ++ r
stored_at s t x z r i start number et ex ez es el eu = rw (eu, el, es, ← et, ← ex) (stored_behind s x z r ez)

-- row i was reached: what is left to sweep leads to w
module _ (s t : List ℕ) (i : ℕ) {w : List ℕ} where
  sweep_row : (left start number : ℕ) {u : List ℕ} → take i t ++ lines_set s left (drop i t) ≡ w
      → 0 < left → i ≤ length t → width ≤ length t - i → start ≡ un (take 4 (drop (i + at_start) t)) → number ≡ 1 + feeds (take start s)
      → u ≡ sets t (i + at_line) (le 4 number)
      → take (i + width) u ++ lines_set s (left - 1) (drop (i + width) u) ≡ w
  sweep_row zero start number e h l k es el eu = absurd (omega arith)
  sweep_row (suc n) start number {u} e h l k es el eu =
      let x = take i t in
      let z = take width (drop i t) in
      let r = drop width (drop i t) in
      let ex : length x ≡ i = rw length-take (omega arith) in
      let ez : length z ≡ width = rw (length-take, length-drop) (omega arith) in
      let er : z ++ r ≡ drop i t = take-append-drop width (drop i t) in
      let et : x ++ (z ++ r) ≡ t = rw (er, take-append-drop) in
      let ey : length (x ++ line_set s z) ≡ i + width = rw (length-append, length_line_set s z ez) (omega arith) in
      rw (
        sub-one,
        stored_at s t x z r i start number et ex ez es el eu,
        take_at (x ++ line_set s z) r (i + width) ey,
        drop_at (x ++ line_set s z) r (i + width) ey,
        append_assoc,
        ← lines_row s n z r ez,
        er,
      )
      e

-- row k was reached: the same, and where the code goes no further
module _ (s t : List ℕ) (k n : ℕ) {w : List ℕ} (e : take (k * width) t ++ lines_set s (n - k) (drop (k * width) t) ≡ w) where
  pub sweep_on : (start number : ℕ) {u : List ℕ} → k < min n (length t / width) → start ≡ un (take 4 (drop (k * width + at_start) t))
      → number ≡ 1 + feeds (take start s) → u ≡ sets t (k * width + at_line) (le 4 number)
      → take ((k + 1) * width) u ++ lines_set s (n - (k + 1)) (drop ((k + 1) * width) u) ≡ w
  sweep_on start number h es el eu =
      let i : (k + 1) * width ≡ k * width + width = omega arith in
      let m : n - (k + 1) ≡ n - k - 1 = omega arith in
      rw (i, m) (sweep_row s t (k * width) (n - k) start number e (omega arith) (omega arith) (omega arith) es el eu)

  pub sweep_end : min n (length t / width) ≤ k → t ≡ w
  unfolding lines_set
  sweep_end h =
      elim (dec_lt k n) [
        | yes l ↦ rw (lines_short s (n - k) (drop (k * width) t) (rw length-drop (omega arith)), take-append-drop) at e
        | no l ↦ let z : n - k ≡ 0 = omega arith in rw (z, take-append-drop) at e
      ]

-- the line from which the code goes on, l, is the one that it kept or, for a start before that, the first
module _ (s : List ℕ) (start : ℕ) {l m : Line} (e : l ≡ m) (h : LineOf s m) where
  pub line_kept : m.from ≤ start → LineOf s l × (l.from ≤ start)
  line_kept g = rw e (h, g)

  pub line_anew : m.from ≡ 0 → LineOf s l × (l.from ≤ start)
  line_anew g = line_kept (omega arith)

-- the first line has number 1
pub sweep_start : (s : List ℕ) → 1 ≡ 1 + feeds (take 0 s)
unfolding feeds
sweep_start s = refl

pub ruleset sweeping = (sweep_end, sweep_start)

-- ---- the lines that are set are the lines of the rows

-- every row starts below the field limit, so that its start stands whole in its four bytes
abbrev pub Low : List Row → Type 0
Low [] = Unit {0}
Low (r ∷ rs) = (r.start < field_limit) × Low rs

pub low_append : (xs ys : List Row) → Low xs → Low ys → Low (xs ++ ys)
low_append [] ys h k = k
low_append (x ∷ xs) ys h k = (h.0, low_append xs ys h.1 k)

module _ (s : List ℕ) where
  line_of : (r : Row) → r.start < field_limit → line_set s (row_bytes r) ≡ row_bytes (lined s r)
  unfolding line_set row_bytes field_bytes lined
  line_of r h = let e : un (le 4 r.start) ≡ r.start = un_le 4 r.start ∙ mod-eq_of_lt h in rw e

  pub lines_of : (rs : List Row) (rest : List ℕ) → Low rs
      → lines_set s (length rs) (rows_bytes rs ++ rest) ≡ rows_bytes (map (lined s) rs) ++ rest
  unfolding lines_set bytes_of
  lines_of [] rest h = refl
  lines_of (r ∷ rs) rest h =
      rw (
        append_assoc (row_bytes r) (rows_bytes rs) rest,
        lines_row s (length rs) (row_bytes r) (rows_bytes rs ++ rest) (length_row_bytes r),
        line_of r h.0,
        lines_of rs rest h.1,
        append_assoc (row_bytes (lined s r)) (rows_bytes (map (lined s) rs)) rest,
      )

  -- rows that are poured, and then get their lines
  pub lines_poured : (rs : List Row) (t : List ℕ) → Low rs → lines_set s (length rs) (pour rs t) ≡ pour (map (lined s) rs) t
  unfolding lines_set
  lines_poured [] t h = rw pour_none
  lines_poured (r ∷ rs) t h =
      ⊎_elim
      (λ (l : width ≤ length t).
      rw (
        pour_fits r rs t l,
        lines_row s (length rs) (row_bytes r) (pour rs (drop width t)) (length_row_bytes r),
        line_of r h.0,
        lines_poured rs (drop width t) h.1,
        pour_fits (lined s r) (map (lined s) rs) t l,
      ))
      (λ (l : length t < width). rw (pour_short (r ∷ rs) t l, pour_short (lined s r ∷ map (lined s) rs) t l, lines_short s (suc (length rs)) t l))
      (le_or_lt width (length t))
