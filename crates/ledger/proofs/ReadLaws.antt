-- Plain reading: its answers and its table, each from what the code knows where it answers.
use Rattle.text.specs.declared.stop.Refused.{Refused}
use Rattle.text.specs.Refusals.{refused_with}
use Rattle.std.specs.Prelude.{Err, Ok, Result}
use Prim.Native.Nat.{ℕ, ◌+◌, ◌*◌, ◌-◌, ◌≤◌, ◌<◌}
use native.Mathlib.Nat.{zero-add}
use native.Mathlib.Omega.{arith}
use mathlib.Core.Path.{◌≡◌, refl, sym, ◌∙◌, ap, subst}
use mathlib.Core.Bool.{Bool, true, false, cond}
use mathlib.Core.List.{List, [], ◌∷◌, ◌++◌, map, append-nil}
use borrow.Author.Tests.{le-leb, lt-leb, leb-true, ltb-false}
use borrow.Rule.Slice.PartMut.{put_mid}
use lib.Dec.{eqb, leb, ltb}
use lib.ListN.{length, length-map, take, drop, length-take, drop_of_length-le}
use Rattle.text.specs.Permitted.{clean, size_limit}
use Rattle.amount.proofs.RowCounts.{refusal_kind}
use Rattle.row.specs.declared.table.Row.{Row}
use Rattle.row.specs.Row.{rows_bytes, room, width}
use Rattle.row.specs.steps.Pouring.{pour}
use Rattle.row.specs.Details.{spanned}
use Rattle.ledger.specs.Strict.{objection, first_refused, strictly, reading_by}
use Rattle.row.specs.steps.Writing.{Poured}
use Rattle.row.specs.steps.Sweep.{lines_set}
use Rattle.row.proofs.PourLaws.{pour_all, pour_append, pour_at_full, pour_at_zero, length_pour}
use Rattle.ledger.specs.Plain.{move, moved, Reading, accepted, denied, read_from, part_at, part, plain}
use Rattle.ledger.specs.Answers.{answer, left}
use Rattle.ledger.specs.steps.Scan.{with_line, moved_reading, scanned, part_at_by, scan_answer, ScanPoured}
use Rattle.ledger.specs.declared.scan.Profile.{Profile}
use Rattle.ledger.specs.declared.scan.Profile.TheVariants.{Plain, Strict}
use Rattle.ledger.proofs.PlainLaws.{part_kept}
use Rattle.ledger.proofs.PartLaws.{part_scanned}
use Rattle.ledger.proofs.LinedRows.{lines_left}

-- at place 0 nothing is moved
pub rows_stay : (rs : List Row) → moved 0 0 rs ≡ rs
unfolding move
rows_stay [] = refl
rows_stay (r ∷ rs) = rw (stays (spanned r.kind) r.p, stays (spanned r.kind) r.q, zero-add r.start, zero-add r.end, zero-add r.line, rows_stay rs)
  where
    stays : (t : Bool) (n : ℕ) → cond t (0 + n) n ≡ n
    stays true n = zero-add n
    stays false n = refl

moved_none : (x : Reading) → moved_reading 0 0 x ≡ x
moved_none (accepted rs) = ap accepted (rows_stay rs)
moved_none (denied n p) = ap (denied n) (zero-add p)

-- what is accepted in a profile has plain reading's rows
bad_rows : (s : List ℕ) (rs : List Row) (w : Reading) (xs : List Row) → first_refused s rs w ≡ accepted xs → w ≡ accepted xs
unfolding first_refused
bad_rows s [] w xs e = e
bad_rows s (r ∷ rs) w xs e = go (eqb (objection s r) 0) e (λ f. bad_rows s rs w xs f)
  where
    go : (b : Bool) → cond b (first_refused s rs w) (denied (objection s r) r.start) ≡ accepted xs → (first_refused s rs w ≡ accepted xs → w ≡ accepted xs) → w ≡ accepted xs
    go true e ih = ih e
    go false e ih = absurd (let z : ◌≡◌ {A = ℕ} 0 1 = cc in omega arith)

pub judged_rows : (s : List ℕ) (x : Reading) (rs : List Row) → strictly s x ≡ accepted rs → x ≡ accepted rs
unfolding strictly
judged_rows s (accepted xs) rs e = bad_rows s xs (accepted xs) rs e
judged_rows s (denied n p) rs e = e

by_rows : (k : Profile) (s : List ℕ) (rs : List Row) → reading_by k s ≡ accepted rs → plain s ≡ accepted rs
by_rows Plain s rs e = e
by_rows Strict s rs e = judged_rows s (plain s) rs e

-- ---- a ledger that plain reading accepts: its size, its bytes and its entries

module _ (s : List ℕ) (rs : List Row) where
  bytes_stand : (b : Bool) → ltb (clean s) (length s) ≡ b → cond b (denied 2 (0 + clean s)) (read_from (length s) 0 1 s) ≡ accepted rs
      → (length s ≤ clean s) × (read_from (length s) 0 1 s ≡ accepted rs)
  bytes_stand true w e = absurd (let z : ◌≡◌ {A = ℕ} 0 1 = cc in omega arith)
  bytes_stand false w e = (ltb-false (clean s) (length s) w, e)

  size_stands : (b : Bool) → leb (length s) size_limit ≡ b → cond b (part s) (denied 1 0) ≡ accepted rs → (length s ≤ size_limit) × (part s ≡ accepted rs)
  size_stands true w e = (leb-true (length s) size_limit w, e)
  size_stands false w e = absurd (let z : ◌≡◌ {A = ℕ} 0 1 = cc in omega arith)

  pub plain_reads : plain s ≡ accepted rs → (length s ≤ size_limit) × (length s ≤ clean s) × (scanned 0 s ≡ accepted rs)
  unfolding plain part_at scanned
  plain_reads e =
      let z = size_stands (leb (length s) size_limit) refl e in
      let y = bytes_stand (ltb (clean s) (length s)) refl z.1 in
      (z.0, y.0, y.1)

-- ---- rows into the part of a table that they fill: none fits behind them

filled : (n : ℕ) (rs : List Row) (t v : List ℕ) → n ≡ length rs → n ≤ room t → Poured 0 rs (take (n * width) (drop 0 t)) v → put_mid 0 (n * width) t v ≡ pour rs t
filled n rs t v e h (xs, p) =
    let a = take (n * width) t in
    let la : length a ≡ n * width = rw length-take (omega arith) in
    let full : pour (rs ++ xs) a ≡ pour rs a =
    pour_append rs xs a ∙ pour_at_full (length rs) xs (pour rs a) (rw (length_pour, la) (omega arith)) in
    let b : pour rs a ≡ rows_bytes rs = pour_all rs a (rw la (omega arith)) ∙ rw (drop_of_length-le a {i = length rs * width} (rw la (omega arith))) (append-nil (rows_bytes rs)) in
    rw (p ∙ pour_at_zero (rs ++ xs) a ∙ full ∙ b, pour_all rs t (omega arith), e)

-- ---- the second pass: the first answered that n rows are wanted

-- what a verdict says of a reading
pub whole_reads : (n : ℕ) (x : Reading) → Ok n ≡ scan_answer x → (rs : List Row) × (x ≡ accepted rs) × (n ≡ length rs)
unfolding scan_answer
whole_reads n (accepted rs) q = (rs, refl, cc)
whole_reads n (denied i p) q = absurd (let z : ◌≡◌ {A = ℕ} 0 1 = cc in omega arith)

pub stopped_denies : (r : Refused) (x : Reading) → Err r ≡ scan_answer x → (x ≡ denied r.number r.place) × (r ≡ refused_with r.number r.place 0)
unfolding scan_answer
stopped_denies r (accepted rs) q = absurd (let y : ◌≡◌ {A = ℕ} 0 1 = cc in omega arith)
stopped_denies r (denied j o) q =
    let z : r ≡ refused_with j o 0 = cc in
    let a : r.number ≡ j = ap (λ (y : Refused). y.number) z in
    let b : r.place ≡ o = ap (λ (y : Refused). y.place) z in
    (rw (a, b) refl, z ∙ rw (a, b) refl)

module _ (k : Profile) (s : List ℕ) (n : ℕ) (w : Ok n ≡ scan_answer (reading_by k s)) where
  was_whole : (rs : List Row) × (reading_by k s ≡ accepted rs) × (n ≡ length rs)
  was_whole = whole_reads n (reading_by k s) w

  rows_whole : (length s ≤ size_limit) × (length s ≤ clean s) × (scanned 0 s ≡ accepted was_whole.0)
  rows_whole = plain_reads s was_whole.0 (by_rows k s was_whole.0 was_whole.1)

  -- the second pass may be made
  pub whole_small : 0 + length s ≤ size_limit
  whole_small = omega (arith, rows_whole)

-- a table too short for n rows
abbrev pub too_short_by : ℕ → Result ℕ Refused
too_short_by n = Err (refused_with 9 0 n)

module _ (k : Profile) (s : List ℕ) (n : ℕ) (w : Ok n ≡ scan_answer (reading_by k s)) (t : List ℕ) where
  abbrev rows : (rs : List Row) × (reading_by k s ≡ accepted rs) × (n ≡ length rs)
  rows = was_whole k s n w

  module _ (h : room t < n) where
    short : room t < length rows.0
    short = omega (arith, rows.2)

    pub written_full : (r : Result ℕ Refused) → r ≡ Err (refused_with 9 0 n) → r ≡ answer (reading_by k s) (room t)
    unfolding answer
    written_full r e = e ∙ ap (λ (z : ℕ). too_short_by z) rows.2 ∙ rw (rows.1, lt-leb (length rows.0) (room t) short)

    pub written_none : t ≡ left (reading_by k s) t
    unfolding left
    written_none = rw (rows.1, lt-leb (length rows.0) (room t) short)

  module _ (h : n ≤ room t) where
    enough : length rows.0 ≤ room t
    enough = omega (arith, rows.2)

    pub written_rows : Ok n ≡ answer (reading_by k s) (room t)
    unfolding answer
    written_rows = ap Ok rows.2 ∙ rw (rows.1, le-leb (length rows.0) (room t) enough)

    pub written_table : (v u : List ℕ) → ScanPoured (scanned 0 s) (take (n * width - 0) (drop 0 t)) v → u ≡ lines_set s n (put_mid 0 (n * width - 0) t v) → u ≡ left (reading_by k s) t
    written_table v u p q =
        let rs = rows.0 in
        let z : n * width - 0 ≡ n * width = omega arith in
        let y = subst (λ i. ScanPoured (accepted rs) (take i (drop 0 t)) v) z (subst (λ x. ScanPoured x (take (n * width - 0) (drop 0 t)) v) (rows_whole k s n w).2 p) in
        q
        ∙ ap (λ i. lines_set s n (put_mid 0 i t v)) z
        ∙ ap (lines_set s n) (filled n (map (with_line 0) rs) t v (rows.2 ∙ sym (length-map rs (with_line 0))) h y)
        ∙ ap (λ i. lines_set s i (pour (map (with_line 0) rs) t)) rows.2
        ∙ lines_left refusal_kind s rs t (part_kept s rs (part_scanned 0 s (rows_whole k s n w).1 ∙ (rows_whole k s n w).2)) (rows_whole k s n w).0 enough
        ∙ ap (λ x. left x t) (sym rows.1)

pub ruleset written_laws = (whole_small, written_full, written_none, written_rows, written_table)

-- ---- the refusals before it, for any room

-- a reading that is refused leaves the table
module _ (k : Profile) (s : List ℕ) (i p : ℕ) (e : reading_by k s ≡ denied i p) where
  denied_answer : (room : ℕ) → Err (refused_with i p 0) ≡ answer (reading_by k s) room
  unfolding answer
  denied_answer room = rw e

  denied_left : (t : List ℕ) → t ≡ left (reading_by k s) t
  unfolding left
  denied_left t = rw e

-- a refusal of plain reading stays
stays_denied : (k : Profile) (s : List ℕ) (i p : ℕ) → plain s ≡ denied i p → reading_by k s ≡ denied i p
unfolding strictly
stays_denied Plain s i p e = e
stays_denied Strict s i p e = ap (strictly s) e

-- ---- the verdict: of a ledger that is too large, and of one that is read

pub verdict_large : (k : Profile) (s : List ℕ) (r : Refused) → size_limit < length s → r ≡ refused_with 1 0 0 → Err r ≡ scan_answer (reading_by k s)
unfolding scan_answer plain
verdict_large k s r h q = rw (stays_denied k s 1 0 (rw (lt-leb (length s) size_limit h)), q)

pub verdict_part : (k : Profile) (s : List ℕ) (m : Result ℕ Refused) → length s ≤ size_limit → m ≡ scan_answer (part_at_by k 0 s) → m ≡ scan_answer (reading_by k s)
unfolding plain
verdict_part Plain s m l q = rw (le-leb (length s) size_limit l) q
verdict_part Strict s m l q = rw (le-leb (length s) size_limit l) (q ∙ ap scan_answer (moved_none (strictly s (part s))))

pub ruleset verdict_laws = (verdict_large, verdict_part)

-- ---- a verdict v that is a refusal, or not

abbrev stopped_with : Refused → Result ℕ Refused
stopped_with r = Err r

module _ (k : Profile) (s : List ℕ) (v : Result ℕ Refused) (q : v ≡ scan_answer (reading_by k s)) where
  module _ (x : Refused) (i : v ≡ Err x) where
    was_denied : (reading_by k s ≡ denied x.number x.place) × (x ≡ refused_with x.number x.place 0)
    was_denied = stopped_denies x (reading_by k s) (sym i ∙ q)

    pub read_stopped : (room : ℕ) → Err x ≡ answer (reading_by k s) room
    read_stopped room = ap (λ (y : Refused). stopped_with y) was_denied.1 ∙ denied_answer k s x.number x.place was_denied.0 room

    pub read_stopped_left : (t : List ℕ) → t ≡ left (reading_by k s) t
    read_stopped_left = denied_left k s x.number x.place was_denied.0

  pub read_whole : (n : ℕ) → v ≡ Ok n → Ok n ≡ scan_answer (reading_by k s)
  read_whole n i = sym i ∙ q

pub ruleset read_laws = (read_stopped, read_stopped_left, read_whole)
