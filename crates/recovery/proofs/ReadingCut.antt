-- Plain reading of a text that it accepts, cut at a boundary that none of its strings holds: both parts are accepted,
-- and the rows are those of the first and, moved, those of the second.
use Prim.Native.Nat.{ℕ, zero, suc, ◌+◌, ◌-◌, ◌<◌, ◌≤◌}
use native.Mathlib.Nat.{add-zero, zero-add, add_comm}
use native.Mathlib.Omega.{arith}
use mathlib.Core.Path.{◌≡◌, refl, sym, ap, subst, ◌∙◌}
use mathlib.Core.Bool.{Bool, true, false, cond}
use mathlib.Core.List.{List, [], ◌∷◌, ◌++◌}
use borrow.Author.Tests.{le-ltb, ltb-false}
use lib.Dec.{ltb}
use lib.ListN.{length, get_or, take, drop, length-append, length-drop}
use lib.Seq.{take-append-le, drop-append-le, drop-drop}
use Rattle.text.specs.Permitted.{permitted, clean}
use Rattle.row.specs.declared.table.Row.{Row}
use Rattle.row.specs.Row.{feeds}
use Rattle.text.specs.Boundaries.{is_start}
use Rattle.entry.specs.Entry.{Reads, got, refuse, entry_of}
use Rattle.entry.specs.Strings.{strings, NoneHolds}
use Rattle.entry.proofs.EntryCut.{Ends, entry_cut}
use Rattle.entry.proofs.EntryForms.{entry_sound}
use Rattle.entry.proofs.StringsLaws.{none_first, none_second}
use Rattle.ledger.specs.Plain.{moved, Reading, accepted, denied, after, read_from, part_at, part}
use Rattle.ledger.specs.steps.Scan.{moved_reading}
use Rattle.ledger.proofs.PlainLaws.{read_nil, read_got, read_refuse, after_accepted}
use Rattle.ledger.proofs.MoveLaws.{after_none, after_after, read_move, read_bound}
use Rattle.ledger.proofs.StringsMoved.{strings_moved}
use Rattle.text.proofs.PlainLaws.{clean_le}
use Rattle.recovery.proofs.BlockLaws.{ends_drop, feeds_parts}

-- ---- entries

-- a reading behind another
abbrev join : Reading → Reading → Reading
join (accepted rs) w = after rs w
join (denied n p) w = denied n p

join_after : (ds : List Row) (v w : Reading) → join (after ds v) w ≡ after ds (join v w)
join_after ds (accepted rs) w = sym (after_after ds rs w)
join_after ds (denied n p) w = refl

module _ (h : ℕ) (y u : List ℕ) (b : is_start (get_or y 0 0) ≡ true) where
  -- what is to be shown of a text x that stands at place a of u, before y
  Cut : ℕ → ℕ → ℕ → ℕ → List ℕ → List Row → Type 0
  Cut f g a l x rs = Ends x → drop a u ≡ x ++ y → read_from f a l (x ++ y) ≡ accepted rs → NoneHolds (strings u rs)
      → read_from f a l (x ++ y) ≡ join (read_from g a l x) (read_from h (a + length x) (l + feeds x) y)

  cut_got : (f g a l : ℕ) (x : List ℕ) (rs : List Row) → 0 < length x → length x + length y ≤ suc f → length x ≤ suc g
      → ((m k : ℕ) (z : List ℕ) (vs : List Row) → length z + length y ≤ f → length z ≤ g → Cut f g m k z vs)
      → (n : ℕ) (ds : List Row) → entry_of (x ++ y) ≡ got n ds → Cut (suc f) (suc g) a l x rs
  unfolding Cut
  cut_got f g a l x rs some hf hg ih n ds q e d r w =
      let both : 0 < length (x ++ y) = rw length-append (omega arith) in
      let c = after_accepted (moved a l ds) (read_from f (a + n) (l + feeds (take n (x ++ y))) (drop n (x ++ y))) rs (sym (read_got f a l (x ++ y) n ds both q) ∙ r) in
      let ww : NoneHolds (strings u (moved a l ds ++ c.0)) = rw c.2 at w in
      let wx : NoneHolds (strings (x ++ y) ds) = rw (strings_moved u a l ds, d) at (none_first u (moved a l ds) c.0 ww) in
      let k = entry_cut x y n ds some e b q wx in
      let nl : n ≤ length x = k.0 in
      let np = entry_sound x n ds k.1 in
      let z = drop n x in
      let m = l + feeds (take n x) in
      let lz : length z ≡ length x - n = length-drop n x in
      let ea : a + n + length z ≡ a + length x = omega arith in
      let el : m + feeds z ≡ l + feeds x = omega (arith, feeds_parts n x) in
      let dz : drop (a + n) u ≡ z ++ y = sym (drop-drop n a u) ∙ ap (drop n) d ∙ drop-append-le n x y nl in
      let rz : read_from f (a + n) m (z ++ y) ≡ accepted c.0 =
      subst (λ v. read_from f (a + n) (l + feeds v) (z ++ y) ≡ accepted c.0) (take-append-le n x y nl)
      (subst (λ v. read_from f (a + n) (l + feeds (take n (x ++ y))) v ≡ accepted c.0) (drop-append-le n x y nl) c.1) in
      rw (
        read_got f a l (x ++ y) n ds both q,
        read_got g a l x n ds some k.1,
        take-append-le n x y nl,
        drop-append-le n x y nl,
        join_after,
        ← ea,
        ← el,
      )
      (ap (after (moved a l ds)) (ih (a + n) m z c.0 (omega arith) (omega arith) (ends_drop n x nl e) dz rz (none_second u (moved a l ds) c.0 ww)))

  cut_step : (f g a l : ℕ) (x : List ℕ) (rs : List Row) → 0 < length x → length x + length y ≤ suc f → length x ≤ suc g
      → ((m k : ℕ) (z : List ℕ) (vs : List Row) → length z + length y ≤ f → length z ≤ g → Cut f g m k z vs) → Cut (suc f) (suc g) a l x rs
  unfolding Cut
  cut_step f g a l x rs some hf hg ih e d r w = go (entry_of (x ++ y)) refl
    where
      go : (c : Reads) → entry_of (x ++ y) ≡ c → read_from (suc f) a l (x ++ y) ≡ join (read_from (suc g) a l x) (read_from h (a + length x) (l + feeds x) y)
      go (got n ds) q = cut_got f g a l x rs some hf hg ih n ds q e d r w
      go (refuse k p) q = absurd (no (sym (read_refuse f a l (x ++ y) k p (rw length-append (omega arith)) q) ∙ r))
        where
          no : denied k (a + p) ≡ accepted rs → ⊥
          no e = let z : ◌≡◌ {A = ℕ} 0 1 = cc in omega arith

  cut_none : (f g a l : ℕ) → length y ≤ f → length y ≤ h → read_from f a l y ≡ join (read_from g a l []) (read_from h (a + 0) (l + 0) y)
  cut_none f g a l hf hh = rw (read_nil g a l, after_none, add-zero a, add-zero l) (read_bound f h a l y hf hh)

  read_cut : (f g a l : ℕ) (x : List ℕ) (rs : List Row) → length x + length y ≤ f → length x ≤ g → length y ≤ h → Cut f g a l x rs
  unfolding Cut feeds
  read_cut zero g a l [] rs hf hg hh e d r w = cut_none zero g a l (omega arith) hh
  read_cut (suc f) g a l [] rs hf hg hh e d r w = cut_none (suc f) g a l (omega arith) hh
  read_cut zero g a l (c ∷ x) rs hf hg hh e d r w = absurd (omega arith)
  read_cut (suc f) zero a l (c ∷ x) rs hf hg hh e d r w = absurd (omega arith)
  read_cut (suc f) (suc g) a l (c ∷ x) rs hf hg hh e d r w = cut_step f g a l (c ∷ x) rs (omega arith) hf hg (λ m k z vs p q. read_cut f g m k z vs p q hh) e d r w

  reading_cut : (x : List ℕ) (rs : List Row) → length y ≤ h → Ends x → u ≡ x ++ y → read_from (length (x ++ y)) 0 1 (x ++ y) ≡ accepted rs → NoneHolds (strings u rs)
      → read_from (length (x ++ y)) 0 1 (x ++ y) ≡ join (read_from (length x) 0 1 x) (read_from h (0 + length x) (1 + feeds x) y)
  unfolding Cut
  reading_cut x rs hh e d r w = read_cut (length (x ++ y)) (length x) 0 1 x rs (rw length-append (omega arith)) (omega arith) hh e d r w

-- ---- bytes that may all stand

pick_suc : (t : Bool) (n m : ℕ) → cond t (suc n) 0 ≡ suc m → (t ≡ true) × (n ≡ m)
pick_suc true n m e = (refl, omega arith)
pick_suc false n m e = absurd (omega arith)

permitted_cut : (b : ℕ) (x y : List ℕ) → Ends (b ∷ x) → permitted b (get_or (x ++ y) 0 0) ≡ true → permitted b (get_or x 0 0) ≡ true
unfolding permitted
permitted_cut b [] y e h = let q : b ≡ 10 = e (omega arith) in rw q
permitted_cut b (c ∷ x) y e h = h

clean_cut : (x y : List ℕ) → Ends x → clean (x ++ y) ≡ length (x ++ y) → (clean x ≡ length x) × (clean y ≡ length y)
unfolding clean
clean_cut [] y e h = (refl, h)
clean_cut (b ∷ x) y e h =
    let k = pick_suc (permitted b (get_or (x ++ y) 0 0)) (clean (x ++ y)) (length (x ++ y)) h in
    let i = clean_cut x y (ends_drop 1 (b ∷ x) (omega arith) e) k.1 in
    (rw (permitted_cut b x y e k.0) (ap suc i.0), i.1)

-- ---- both

part_clean : (s : List ℕ) → clean s ≡ length s → part s ≡ read_from (length s) 0 1 s
unfolding part_at
part_clean s e = rw (e, le-ltb (length s) (length s) (omega arith))

part_cases : (s : List ℕ) (rs : List Row) → part s ≡ accepted rs → (clean s ≡ length s) × (read_from (length s) 0 1 s ≡ accepted rs)
unfolding part_at
part_cases s rs e = go (ltb (clean s) (length s)) refl e
  where
    go : (t : Bool) → ltb (clean s) (length s) ≡ t → cond t (denied 2 (0 + clean s)) (read_from (length s) 0 1 s) ≡ accepted rs
        → (clean s ≡ length s) × (read_from (length s) 0 1 s ≡ accepted rs)
    go true q e = absurd (let z : ◌≡◌ {A = ℕ} 0 1 = cc in omega arith)
    go false q e = (omega (arith, ltb-false (clean s) (length s) q, clean_le s), e)

join_cases : (a l : ℕ) (v w : Reading) (rs : List Row) → join v (moved_reading a l w) ≡ accepted rs
    → (us : List Row) × (vs : List Row) × (v ≡ accepted us) × (w ≡ accepted vs) × (rs ≡ us ++ moved a l vs)
join_cases a l (accepted us) (accepted vs) rs e = (us, vs, refl, refl, cc)
join_cases a l (accepted us) (denied n p) rs e = absurd (let z : ◌≡◌ {A = ℕ} 0 1 = cc in omega arith)
join_cases a l (denied n p) w rs e = absurd (let z : ◌≡◌ {A = ℕ} 0 1 = cc in omega arith)

pub part_cut : (x y : List ℕ) (rs : List Row) → Ends x → is_start (get_or y 0 0) ≡ true → part (x ++ y) ≡ accepted rs → NoneHolds (strings (x ++ y) rs)
    → (us : List Row) × (vs : List Row) × (part x ≡ accepted us) × (part y ≡ accepted vs) × (rs ≡ us ++ moved (length x) (feeds x) vs)
part_cut x y rs e b h w =
    let k = part_cases (x ++ y) rs h in
    let c = clean_cut x y e k.0 in
    let m : read_from (length y) (0 + length x) (1 + feeds x) y ≡ moved_reading (length x) (feeds x) (read_from (length y) 0 1 y) =
    rw (zero-add, add_comm 1 (feeds x)) (rw add-zero at (read_move (length y) (length x) (feeds x) 0 1 y)) in
    let q = reading_cut (length y) y (x ++ y) b x rs (omega arith) e refl k.1 w in
    let j = join_cases (length x) (feeds x) (read_from (length x) 0 1 x) (read_from (length y) 0 1 y) rs (ap (join (read_from (length x) 0 1 x)) (sym m) ∙ sym q ∙ k.1) in
    (j.0, j.1, part_clean x c.0 ∙ j.2, part_clean y c.1 ∙ j.3, j.4)
