-- The rows of plain reading: no more than the bytes, in order of start, each on its line and within the text, and none
-- of a refusal row's kind.
use Prim.Native.Nat.{ℕ, zero, suc, ◌+◌, ◌-◌, ◌≤◌, ◌<◌}
use native.Mathlib.Nat.{zero-add, add-zero, add_assoc}
use native.Mathlib.Omega.{arith}
use mathlib.Core.Path.{◌≡◌, refl, sym, ◌∙◌, ap, subst}
use mathlib.Core.Bool.{Bool, true, false, cond}
use mathlib.Core.List.{List, [], ◌∷◌, ◌++◌}
use borrow.Author.Tests.{ne_eqb}
use lib.Dec.{ltb}
use lib.ListN.{length, get_or, take, drop, length-append, length-map, take-append-drop, get_or-append}
use lib.Seq.{drop_at, get_or-drop, length-take-le, take-append-le, take-append-add}
use Rattle.text.specs.Permitted.{clean}
use Rattle.text.specs.Every.{Every}
use Rattle.amount.proofs.RowCounts.{refusal_kind, mid_line}
use Rattle.row.specs.declared.table.Row.{Row}
use Rattle.row.specs.Row.{feeds}
use Rattle.row.proofs.LineLaws.{feeds_append}
use Rattle.entry.specs.Entry.{Reads, got, refuse, entry_of}
use Rattle.entry.proofs.EntryForms.{entry_sound}
use Rattle.entry.proofs.EntryTold.{entry_few}
use Rattle.entry.proofs.EntryLines.{OnLine, entry_lines}
use Rattle.ledger.specs.Plain.{move, moved, Reading, accepted, denied, after, read_from, part_at, part}
use Rattle.ledger.proofs.RowOrder.{Rises, rises_append, rises_moved, entry_rises}

-- ---- one entry of a reading

pub read_nil : (f a l : ℕ) → read_from f a l [] ≡ accepted []
unfolding read_from
read_nil zero a l = refl
read_nil (suc f) a l = refl

pub read_got : (f a l : ℕ) (s : List ℕ) (n : ℕ) (rs : List Row) → 0 < length s → entry_of s ≡ got n rs
    → read_from (suc f) a l s ≡ after (moved a l rs) (read_from f (a + n) (l + feeds (take n s)) (drop n s))
unfolding read_from
read_got f a l [] n rs h e = absurd (omega arith)
read_got f a l (b ∷ s) n rs h e = rw (e, read_from)

pub read_refuse : (f a l : ℕ) (s : List ℕ) (k p : ℕ) → 0 < length s → entry_of s ≡ refuse k p → read_from (suc f) a l s ≡ denied k (a + p)
unfolding read_from
read_refuse f a l [] k p h e = absurd (omega arith)
read_refuse f a l (b ∷ s) k p h e = rw (e, read_from)

-- ---- rows of a text that starts at place a and line l

pub record Kept (top a l : ℕ) (s : List ℕ) (rs : List Row) : Type 0 where
  pub few : length rs ≤ length s
  pub order : Rises a (a + length s) rs
  pub lines : Every (OnLine top a l s) rs

-- moved, and under a higher bound of kinds
pub kept_move : (top high a l b m : ℕ) (s : List ℕ) (rs : List Row) → top ≤ high → Kept top b m s rs → Kept high (a + b) (l + m) s (moved a l rs)
unfolding move
kept_move top high a l b m s rs g k =
    record { few = rw length-map k.few; order = rw (add_assoc a b (length s)) (rises_moved a l b (b + length s) rs k.order); lines = each rs k.lines }
  where
    each : (rs : List Row) → Every (OnLine top b m s) rs → Every (OnLine high (a + b) (l + m) s) (moved a l rs)
    each [] h = tt
    each (r ∷ rs) (h, hs) = (
      record {
        into = h.into;
        inside = h.inside;
        early = h.early;
        place = omega (arith, h.place);
        lines = omega (arith, h.lines);
        ends = omega (arith, h.ends);
        kind = omega (arith, h.kind);
      },
      each rs hs,
    )

mid_none : (s : List ℕ) → mid_line s 0 ≡ 0
unfolding mid_line
mid_none s = refl

-- a place of the first or of the second text
mid_first : (u v : List ℕ) (i : ℕ) → i ≤ length u → mid_line (u ++ v) i ≡ mid_line u i
unfolding mid_line
mid_first u v zero h = refl
mid_first u v (suc i) h = let z : suc i - 1 ≡ i = omega arith in rw (z, get_or-append u v 0 i (omega arith))

mid_second : (u v : List ℕ) (i : ℕ) → 0 < i → mid_line (u ++ v) (length u + i) ≡ mid_line v i
unfolding mid_line
mid_second u v i h =
    let z : length u + i - 1 ≡ length u + (i - 1) = omega arith in
    let b : get_or (u ++ v) (length u + (i - 1)) 0 ≡ get_or v (i - 1) 0 =
    sym (get_or-drop (length u) (u ++ v) (i - 1) 0) ∙ ap (λ (w : List ℕ). get_or w (i - 1) 0) (drop_at u v (length u) refl) in
    rw (ne_eqb i 0 (λ e. omega arith), ne_eqb (length u + i) 0 (λ e. omega arith), z, b)

pub kept_append : (top a l : ℕ) (u v : List ℕ) (xs ys : List Row) → Kept top a l u xs → Kept top (a + length u) (l + feeds u) v ys
    → Kept top a l (u ++ v) (xs ++ ys)
kept_append top a l u v xs ys k j =
    record {
      few = simp length-append (omega (arith, k.few, j.few));
      order = rw (length-append, ← add_assoc a (length u) (length v)) (rises_append a (a + length u) (a + length u + length v) xs ys k.order j.order);
      lines = first xs k.lines;
    }
  where
    second_early : (i : ℕ) → i < length v + mid_line v i → length u + i < length (u ++ v) + mid_line (u ++ v) (length u + i)
    second_early zero h = rw length-append (omega (arith, mid_none v))
    second_early (suc i) h = rw (length-append, mid_second u v (suc i) (omega arith)) (omega arith)

    rest : (ys : List Row) → Every (OnLine top (a + length u) (l + feeds u) v) ys → Every (OnLine top a l (u ++ v)) ys
    rest [] h = tt
    rest (r ∷ ys) (h, hs) = (
      record {
        into = length u + h.into;
        inside = rw length-append (omega (arith, h.inside));
        early = second_early h.into h.early;
        place = omega (arith, h.place);
        lines = rw (take-append-add, feeds_append) (omega (arith, h.lines));
        ends = rw length-append (omega (arith, h.ends));
        kind = h.kind;
      },
      rest ys hs,
    )

    first : (xs : List Row) → Every (OnLine top a l u) xs → Every (OnLine top a l (u ++ v)) (xs ++ ys)
    first [] h = rest ys j.lines
    first (r ∷ xs) (h, hs) = (
      record {
        into = h.into;
        inside = rw length-append (omega (arith, h.inside));
        early = rw (length-append, mid_first u v h.into h.inside) (omega (arith, h.early));
        place = h.place;
        lines = rw (take-append-le h.into u v h.inside) h.lines;
        ends = rw length-append (omega (arith, h.ends));
        kind = h.kind;
      },
      first xs hs,
    )

-- ---- a reading that accepts

abbrev pub Accepts : (List Row → Type 0) → Reading → Type 0
Accepts P (accepted rs) = P rs
Accepts P (denied n p) = Unit {0}

after_kept : (a l : ℕ) (u v : List ℕ) (xs : List Row) (w : Reading) → Kept refusal_kind a l u xs → Accepts (Kept refusal_kind (a + length u) (l + feeds u) v) w
    → Accepts (Kept refusal_kind a l (u ++ v)) (after xs w)
after_kept a l u v xs (accepted ys) k j = kept_append refusal_kind a l u v xs ys k j
after_kept a l u v xs (denied n p) k j = tt

entry_kept : (a l : ℕ) (s : List ℕ) (n : ℕ) (rs : List Row) → entry_of s ≡ got n rs → Kept refusal_kind a l (take n s) (moved a l rs)
entry_kept a l s n rs e =
    let len = length-take-le n s (entry_sound s n rs e).1 in
    rw (add-zero a, add-zero l) at
    (kept_move refusal_kind refusal_kind a l 0 0 (take n s) rs (omega arith)
    (record { few = rw len (entry_few s n rs e); order = rw (len, zero-add n) (entry_rises s n rs e); lines = entry_lines s n rs e }))

read_step : (f a l : ℕ) (s : List ℕ) → 0 < length s → ((b m : ℕ) (z : List ℕ) → Accepts (Kept refusal_kind b m z) (read_from f b m z))
    → Accepts (Kept refusal_kind a l s) (read_from (suc f) a l s)
read_step f a l s h ih = go (entry_of s) refl
  where
    go : (r : Reads) → entry_of s ≡ r → Accepts (Kept refusal_kind a l s) (read_from (suc f) a l s)
    go (got n rs) e =
        rw (read_got f a l s n rs h e)
        (subst (λ z. Accepts (Kept refusal_kind a l z) (after (moved a l rs) (read_from f (a + n) (l + feeds (take n s)) (drop n s)))) (take-append-drop n s)
        (after_kept a l (take n s) (drop n s) (moved a l rs) (read_from f (a + n) (l + feeds (take n s)) (drop n s)) (entry_kept a l s n rs e)
        (rw (length-take-le n s (entry_sound s n rs e).1) (ih (a + n) (l + feeds (take n s)) (drop n s)))))
    go (refuse k p) e = rw (read_refuse f a l s k p h e) tt

pub read_kept : (f a l : ℕ) (s : List ℕ) → Accepts (Kept refusal_kind a l s) (read_from f a l s)
unfolding read_from
read_kept zero a l s = record { few = omega arith; order = omega arith; lines = tt }
read_kept (suc f) a l [] = record { few = omega arith; order = omega arith; lines = tt }
read_kept (suc f) a l (c ∷ s) = read_step f a l (c ∷ s) (omega arith) (λ b m z. read_kept f b m z)

pub part_at_kept : (a l : ℕ) (s : List ℕ) → Accepts (Kept refusal_kind a l s) (part_at a l s)
unfolding part_at
part_at_kept a l s = go (ltb (clean s) (length s))
  where
    go : (b : Bool) → Accepts (Kept refusal_kind a l s) (cond b (denied 2 (a + clean s)) (read_from (length s) a l s))
    go true = tt
    go false = read_kept (length s) a l s

pub part_kept : (s : List ℕ) (rs : List Row) → part s ≡ accepted rs → Kept refusal_kind 0 1 s rs
part_kept s rs e = subst (Accepts (Kept refusal_kind 0 1 s)) e (part_at_kept 0 1 s)

-- ---- what an accepted reading says of its parts

pub after_accepted : (ds : List Row) (w : Reading) (rs : List Row) → after ds w ≡ accepted rs → (vs : List Row) × (w ≡ accepted vs) × (rs ≡ ds ++ vs)
after_accepted ds (accepted vs) rs e = (vs, refl, cc)
after_accepted ds (denied n p) rs e = absurd (let z : ◌≡◌ {A = ℕ} 0 1 = cc in omega arith)

pub accepted_same : (ps qs : List Row) → accepted ps ≡ accepted qs → ps ≡ qs
accepted_same ps qs e = cc
