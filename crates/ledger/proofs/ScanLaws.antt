-- A scan of a ledger, entry by entry: what the code has done when it has reached a place.
use Rattle.text.specs.Refusals.{refused_with}
use Rattle.entry.specs.declared.entry.Entry.{Entry}
use Rattle.text.specs.declared.stop.Refused.{Refused}
use Rattle.std.specs.Prelude.{Err, Ok, Result}
use Prim.Native.Nat.{ℕ, suc, ◌+◌, ◌-◌, ◌≤◌, ◌<◌}
use native.Mathlib.Omega.{arith}
use mathlib.Core.Path.{◌≡◌, refl, sym, ◌∙◌, ap, subst}
use mathlib.Core.List.{List, [], ◌++◌, map, map-append, append-nil}
use mir.Syntax.{w64}
use mir.Val.{Fits}
use borrow.Rule.Slice.PartMut.{put_mid}
use lib.ListN.{length, take, drop, length-append, length-map, length-drop, drop_of_length-le}
use lib.Seq.{drop-drop}
use Rattle.text.specs.Permitted.{size_limit}
use Rattle.row.specs.declared.table.Row.{Row}
use Rattle.row.specs.Row.{feeds}
use Rattle.row.specs.steps.Pouring.{pour, pour_at, place_of}
use Rattle.row.specs.steps.Writing.{Poured}
use Rattle.row.proofs.PourLaws.{pour_at_zero}
use Rattle.row.proofs.OutLaws.{poured_none, poured_then}
use Rattle.row.proofs.TableLaws.{lent_on}
use Rattle.entry.specs.Forms.{form_of}
use Rattle.entry.specs.Entry.{Reads, got, refuse, entry_of}
use Rattle.entry.specs.steps.Settled.{own_row, kind_of, entry_answer, form_rows, EntryPoured}
use Rattle.entry.proofs.EntryForms.{entry_form, entry_sound}
use Rattle.entry.proofs.EntryTold.{entry_few}
use Rattle.entry.proofs.EntryPlaces.{entry_place}
use Rattle.text.proofs.Steps.{rest_of}
use Rattle.ledger.specs.Plain.{moved, accepted, denied, after, read_from}
use Rattle.ledger.specs.steps.Scan.{with_line, scanned}
use Rattle.ledger.proofs.PlainLaws.{read_nil, read_got, read_refuse}
use Rattle.ledger.proofs.MoveLaws.{after_none, after_after, read_bound}
use Rattle.ledger.proofs.LaidRows.{entry_laid}

-- ---- one entry of a scan

-- the rows that are written are the entry's, moved and with no line
pub rows_laid : (a l : ℕ) (s : List ℕ) (n : ℕ) (rs : List Row) → entry_of s ≡ got n rs → form_rows a (form_of s) ≡ map (with_line 0) (moved a l rs)
unfolding form_rows own_row
rows_laid a l s n rs e =
    let z = entry_form s n rs e in
    ap (form_rows a) z.1 ∙ sym (entry_laid a l s n z.0 z.1) ∙ ap (λ x. map (with_line 0) (moved a l x)) (sym z.2)

-- what is left of a reading after an entry, in a text that starts at place a
pub read_on : (a : ℕ) (s : List ℕ) (at l n : ℕ) (rs : List Row) → at < length s → entry_of (drop at s) ≡ got n rs
    → read_from (length s - at) (a + at) l (drop at s) ≡ after (moved (a + at) l rs) (read_from (length s - (at + n)) (a + (at + n)) (l + feeds (take n (drop at s))) (drop (at + n) s))
read_on a s at l n rs h e =
    let f = length s - at - 1 in
    let b : length s - at ≡ suc f = omega arith in
    let k = entry_sound (drop at s) n rs e in
    let m = l + feeds (take n (drop at s)) in
    let i : a + at + n ≡ a + (at + n) = omega arith in
    let c : read_from f (a + at + n) m (drop n (drop at s)) ≡ read_from (length s - (at + n)) (a + (at + n)) m (drop (at + n) s) =
    rw (i, drop-drop n at s) (read_bound f (length s - (at + n)) (a + (at + n)) m (drop (at + n) s) (rw length-drop (omega arith)) (rw length-drop (omega arith))) in
    ap (λ x. read_from x (a + at) l (drop at s)) b ∙ read_got f (a + at) l (drop at s) n rs (rw length-drop (omega arith)) e ∙ ap (after (moved (a + at) l rs)) c

pub read_stop : (a : ℕ) (s : List ℕ) (at l k p : ℕ) → at < length s → entry_of (drop at s) ≡ refuse k p
    → read_from (length s - at) (a + at) l (drop at s) ≡ denied k (a + at + p)
read_stop a s at l k p h e =
    let b : length s - at ≡ suc (length s - at - 1) = omega arith in
    ap (λ x. read_from x (a + at) l (drop at s)) b ∙ read_refuse (length s - at - 1) (a + at) l (drop at s) k p (rw length-drop (omega arith)) e

-- rows behind those that are poured
poured_on : (xs ys : List Row) (n : ℕ) (t v u : List ℕ) → n ≡ length xs → Poured 0 (map (with_line 0) xs) u t → Poured n (map (with_line 0) ys) t v
    → Poured 0 (map (with_line 0) (xs ++ ys)) u v
poured_on xs ys n t v u e h w =
    let W = map (with_line 0) in
    let l : n ≡ 0 + length (W xs) = rw length-map (omega arith) in
    subst (λ rs. Poured 0 rs u v) (sym (map-append (with_line 0) xs ys)) (poured_then 0 n (W xs) (W ys) u t v l h w)

-- ---- a scan that has reached a place: n rows are in the table t, which was u

pub record Reached (a : ℕ) (s u : List ℕ) (at n : ℕ) (t : List ℕ) : Type 0 where
  pub rows : List Row
  pub line : ℕ
  pub count : n ≡ length rows
  pub few : n ≤ at
  pub inside : at ≤ length s
  pub table : Poured 0 (map (with_line 0) rows) u t
  pub rest : scanned a s ≡ after rows (read_from (length s - at) (a + at) line (drop at s))

pub scan_start : (a : ℕ) (s t : List ℕ) → Reached a s t 0 0 t
unfolding scanned
scan_start a s t =
    record {
      rows = [];
      line = 1;
      count = refl;
      few = omega arith;
      inside = omega arith;
      table = poured_none 0 t;
      rest =
          let e : length s - 0 ≡ length s = omega arith in
          let i : a + 0 ≡ a = omega arith in
          rw (e, i) (sym (after_none (read_from (length s) a 1 s)));
    }

-- ---- a turn: r is the code's answer to the entry there, v its table from row n on

module _ (a : ℕ) (s u : List ℕ) (at n : ℕ) (t : List ℕ) (g : Reached a s u at n t) (h : at < length s) (r : Result Entry Refused)
    (w₀ : r ≡ entry_answer (entry_of (take (length s - at) (drop at s)))) where
  -- what an entry that was read is
  pub turn_was : (y : Entry) → r ≡ Ok y → (rs : List Row) × (entry_of (drop at s) ≡ got y.size rs) × (y.rows ≡ length rs) × (y.kind ≡ kind_of rs)
  unfolding entry_answer
  turn_was y e = go (entry_of (drop at s)) refl (sym e ∙ w₀ ∙ ap (λ x. entry_answer (entry_of x)) (rest_of s at))
    where
      go : (x : Reads) → entry_of (drop at s) ≡ x → Ok y ≡ entry_answer x
          → (rs : List Row) × (entry_of (drop at s) ≡ got y.size rs) × (y.rows ≡ length rs) × (y.kind ≡ kind_of rs)
      go (got j rs) p w =
          let z : y ≡ record { kind = kind_of rs; size = j; rows = length rs } = cc in
          (rs, p ∙ ap (λ (k : ℕ). got k rs) (sym (ap (λ (k : Entry). k.size) z)), ap (λ (k : Entry). k.rows) z, ap (λ (k : Entry). k.kind) z)
      go (refuse i j) p w = absurd (let z : ◌≡◌ {A = ℕ} 0 1 = cc in omega arith)

  turn_refused : (x : Refused) → r ≡ Err x → entry_of (drop at s) ≡ refuse x.number x.place
  unfolding entry_answer
  turn_refused x e = go (entry_of (drop at s)) refl (sym e ∙ w₀ ∙ ap (λ x. entry_answer (entry_of x)) (rest_of s at))
    where
      go : (y : Reads) → entry_of (drop at s) ≡ y → Err x ≡ entry_answer y → entry_of (drop at s) ≡ refuse x.number x.place
      go (got j rs) q w = absurd (let z : ◌≡◌ {A = ℕ} 0 1 = cc in omega arith)
      go (refuse i j) q w =
          let z : x ≡ refused_with i j 0 = cc in
          rw (ap (λ (y : Refused). y.number) z, ap (λ (y : Refused). y.place) z) q

  module _ (y : Entry) (e : r ≡ Ok y) where
    turn_bounds : (0 < y.size) × (at + y.size ≤ length s) × (y.rows ≤ y.size)
    turn_bounds =
        let z = turn_was y e in
        omega (arith, entry_sound (drop at s) y.size z.0 z.1, entry_few (drop at s) y.size z.0 z.1, z.2, length-drop at s)

    pub turn_read : (i : ℕ) (v : List ℕ) → i ≡ place_of n (length t)
        → EntryPoured (entry_of (take (length s - at) (drop at s))) (a + at) (take (length s - at) (drop at s)) (take (length t - i) (drop i t)) v
        → Reached a s u (at + y.size) (n + y.rows) (put_mid i (length t - i) t v)
    turn_read i v ei w =
        let z = turn_was y e in
        let b = turn_bounds in
        let new = moved (a + at) g.line z.0 in
        let part = take (length t - i) (drop i t) in
        let w₁ = subst (λ x. EntryPoured x (a + at) (drop at s) part v) z.1 (subst (λ x. EntryPoured (entry_of x) (a + at) x part v) (rest_of s at) w) in
        let rs = map (with_line 0) new ++ w₁.0 in
        let x : v ≡ pour rs part = w₁.1 ∙ ap (λ k. pour_at 0 (k ++ w₁.0) part) (rows_laid (a + at) g.line (drop at s) y.size z.0 z.1) ∙ pour_at_zero rs part in
        record {
          rows = g.rows ++ new;
          line = g.line + feeds (take y.size (drop at s));
          count = rw (length-append, length-map) (omega (arith, g.count, z.2));
          few = omega (arith, g.few, b);
          inside = omega (arith, b);
          table = poured_on g.rows new n t (put_mid i (length t - i) t v) u g.count g.table (w₁.0, lent_on n rs t ei x);
          rest =
              g.rest
              ∙ ap (after g.rows) (read_on a s at g.line y.size z.0 h z.1)
              ∙ after_after g.rows new (read_from (length s - (at + y.size)) (a + (at + y.size)) (g.line + feeds (take y.size (drop at s))) (drop (at + y.size) s));
        }

    -- what the code needs to go on: each turn takes a byte at least, and makes no more rows than it takes bytes
    pub turn_falls : length s - (at + y.size) < length s - at
    turn_falls = omega (arith, turn_bounds)

    -- the entry stands in the rest of the text, as the code lends it on
    pub turn_len : y.size ≤ length (take (length s - at) (drop at s))
    turn_len = rw (rest_of s at, length-drop) (omega (arith, turn_bounds))

    pub turn_place : a + length s ≤ size_limit → Fits w64 (at + y.size)
    turn_place l = record { fits = omega (arith, turn_bounds) }

    pub turn_count : a + length s ≤ size_limit → Fits w64 (n + y.rows)
    turn_count l = record { fits = omega (arith, turn_bounds, g.few) }

  module _ (x : Refused) (e : r ≡ Err x) where
    pub scan_denied : scanned a s ≡ denied x.number (a + at + x.place)
    scan_denied = g.rest ∙ ap (after g.rows) (read_stop a s at g.line x.number x.place h (turn_refused x e))

    pub turn_spot : a + length s ≤ size_limit → Fits w64 (a + at + x.place)
    turn_spot l = record { fits = omega (arith, entry_place (drop at s) x.number x.place (turn_refused x e), length-drop at s) }

-- the end is reached
module _ (a : ℕ) (s u : List ℕ) (at n : ℕ) (t : List ℕ) (g : Reached a s u at n t) (h : length s ≤ at) where
  pub scan_accepted : scanned a s ≡ accepted g.rows
  scan_accepted =
      let e : read_from (length s - at) (a + at) g.line (drop at s) ≡ accepted [] = rw (drop_of_length-le s {i = at} h) (read_nil (length s - at) (a + at) g.line) in
      g.rest ∙ ap (after g.rows) e ∙ ap accepted (append-nil g.rows)

-- what the entry needs
module _ (a : ℕ) (s : List ℕ) (at : ℕ) (l : a + length s ≤ size_limit) where
  pub rest_small : length (take (length s - at) (drop at s)) ≤ size_limit
  rest_small = rw (rest_of s at, length-drop) (omega arith)

  pub place_small : at < length s → a + at ≤ size_limit
  place_small h = omega arith

  pub place_fits : at < length s → Fits w64 (a + at)
  place_fits h = record { fits = omega arith }

pub ruleset scan_laws = (scan_start, turn_read, turn_falls, turn_len, turn_place, turn_count, turn_spot, rest_small, place_small, place_fits)
