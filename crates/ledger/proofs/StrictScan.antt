-- A scan in a profile: the objection that is held when a place is reached, and what the code answers.
use Rattle.text.specs.Refusals.{refused_with}
use Rattle.entry.specs.declared.entry.Entry.{Entry}
use Rattle.text.specs.declared.stop.Refused.{Refused}
use Rattle.std.specs.Prelude.{Err, Ok, Result, None, Option, Some}
use Prim.Native.Nat.{ℕ, ◌+◌, ◌-◌, ◌≤◌, ◌<◌}
use native.Mathlib.Nat.{add-zero, zero-add}
use native.Mathlib.Omega.{arith}
use mathlib.Core.Path.{◌≡◌, refl, sym, ◌∙◌, ap, subst}
use mathlib.Core.Bool.{Bool, true, false, cond}
use mathlib.Core.Logic.{⊎_elim}
use mathlib.Core.List.{List, [], ◌++◌, append-nil}
use borrow.Author.Tests.{eq-eqb, ne_eqb}
use lib.Dec.{eqb}
use lib.ListN.{length, take, drop, length-drop, drop_of_length-le}
use Rattle.text.specs.Bytes.{is_blank}
use Rattle.text.specs.Run.{blanks}
use Rattle.text.proofs.Steps.{run_within, run_ends, rest_of}
use Rattle.text.specs.Permitted.{size_limit}
use Rattle.row.specs.declared.table.Row.{Row}
use Rattle.row.specs.Row.{feeds}
use Rattle.row.proofs.PourLaws.{le_or_lt}
use Rattle.entry.specs.Entry.{got, entry_of}
use Rattle.ledger.specs.Strict.{lost_line}
use Rattle.ledger.specs.declared.strict.Objection.{Objection}
use Rattle.entry.specs.steps.Settled.{kind_of, entry_answer}
use Rattle.ledger.specs.steps.Objections.{entry_reach, ledger_reach, objection_of, flag_passes, lost_of, flag_of, entry_objection, Near}
use Rattle.ledger.specs.Plain.{moved, Reading, accepted, denied, after, read_from}
use Rattle.ledger.specs.Strict.{first_refused, strictly}
use Rattle.ledger.specs.steps.Scan.{scanned, moved_reading, scanned_by, first_of, noted_by, ended_scan, scan_answer, ScanPoured}
use Rattle.ledger.specs.declared.scan.Profile.{Profile}
use Rattle.ledger.specs.declared.scan.Profile.TheVariants.{Plain, Strict}
use Rattle.ledger.proofs.PlainLaws.{read_nil}
use Rattle.ledger.proofs.MoveLaws.{after_none, after_after, read_move}
use Rattle.ledger.proofs.JudgeLaws.{bad_append, bad_moved, held_by, entry_bad}
use Rattle.ledger.proofs.ScanLaws.{Reached, read_on, turn_was, scan_denied, scan_accepted, scan_laws}

-- ---- small functions of the code

module _ (h : Option Objection) (at : ℕ) (o : Option Objection) where
  pub first_kept : (x : Objection) → h ≡ Some x → Some x ≡ first_of h at o
  unfolding first_of
  first_kept x e = rw e

  pub first_new : (x : Objection) → h ≡ None → o ≡ Some x → Some (objection_of x.number (at + x.place)) ≡ first_of h at o
  unfolding first_of
  first_new x e f = rw (e, f)

  pub first_none : h ≡ None → o ≡ None → None ≡ first_of h at o
  unfolding first_of
  first_none e f = rw (e, f)

  pub first_near : (x : Objection) (n : ℕ) → Near n o → o ≡ Some x → x.place ≤ n
  first_near x n l e = rw e at l

pub ruleset first_laws = (first_kept, first_new, first_none, first_near)

blanks_near : (s : List ℕ) → blanks s 10 ≤ length s + 10
blanks_near s =
    ⊎_elim (λ (h : 10 ≤ length s). omega (arith, run_within is_blank s 10 (blanks s 10) refl h)) (λ (h : length s < 10). omega (arith, run_ends is_blank s 10 (omega arith)))
    (le_or_lt 10 (length s))

pub objection_near : (k n : ℕ) (s : List ℕ) (m : ℕ) → length s + 10 ≤ m → Near m (entry_objection k n s)
unfolding entry_objection lost_of flag_of
objection_near k n s m h = go (eqb k 1) (eqb k 6) (lost_line _) (flag_passes _)
  where
    go : (a b c d : Bool) → Near m (cond a (cond c (Some (objection_of 16 0)) None) (cond b (cond d None (Some (objection_of 17 (blanks s 10)))) None))
    go true b true d = omega arith
    go true b false d = tt
    go false true c true = tt
    go false true c false = omega (arith, blanks_near s, h)
    go false false c d = tt

module _ (h : Option Objection) (at len kind : ℕ) (s : List ℕ) (p : Profile) where
  pub noted_plain : p ≡ Profile.Plain → h ≡ noted_by p h at (entry_objection kind len s)
  unfolding noted_by
  noted_plain e = rw e

  module _ (o : Option Objection) (eo : o ≡ entry_objection kind len s) where
    pub noted_strict : (r : Option Objection) → p ≡ Profile.Strict → r ≡ first_of h at o → r ≡ noted_by p h at (entry_objection kind len s)
    unfolding noted_by
    noted_strict r e q = rw (e, ← eo) q

    pub noted_near : length s ≤ size_limit → Near entry_reach o
    noted_near l = rw eo (objection_near kind len s entry_reach (omega arith))

pub ruleset noted_laws = (noted_plain, noted_strict, noted_near)

module _ (a n : ℕ) (h : Option Objection) where
  pub ended_whole : h ≡ None → Ok n ≡ ended_scan a n h
  unfolding ended_scan
  ended_whole e = rw e

  pub ended_stop : (x : Objection) (z : Refused) → h ≡ Some x → z ≡ refused_with x.number (a + x.place) 0 → Err z ≡ ended_scan a n h
  unfolding ended_scan
  ended_stop x z e q = rw (e, q)

  pub ended_near : (x : Objection) (m : ℕ) → Near m h → h ≡ Some x → x.place ≤ m
  ended_near x m l e = rw e at l

pub ruleset ended_laws = (ended_whole, ended_stop, ended_near)

-- ---- what is held when a place is reached

-- the objection that is held is the one against the rows so far
abbrev held_as : Option Objection → Reading → Reading
held_as None w = w
held_as (Some o) w = denied o.number o.place

pub record Heard (s : List ℕ) (at : ℕ) (o : Option Objection) : Type 0 where
  pub rows : List Row
  pub line : ℕ
  pub rest : scanned 0 s ≡ after rows (read_from (length s - at) (0 + at) line (drop at s))
  pub held : (w : Reading) → first_refused s rows w ≡ held_as o w

abbrev pub Judged : Profile → List ℕ → ℕ → Option Objection → Type 0
Judged Plain s at o = o ≡ None
Judged Strict s at o = Heard s at o

pub judged_start : (k : Profile) (s : List ℕ) → Judged k s 0 None
unfolding scanned first_refused
judged_start Plain s = refl
judged_start Strict s =
    record {
      rows = [];
      line = 1;
      rest =
          let e : length s - 0 ≡ length s = omega arith in
          rw e (sym (after_none (read_from (length s) 0 1 s)));
      held = λ w. refl;
    }

held_first : (h o : Option Objection) (at : ℕ) (w : Reading) → held_as h (held_by at o w) ≡ held_as (first_of h at o) w
unfolding first_of
held_first (Some h) o at w = refl
held_first None (Some o) at w = refl
held_first None None at w = refl

first_place : (h : Option Objection) (at : ℕ) (x : Option Objection) → Near ledger_reach h → at ≤ size_limit → Near entry_reach x → Near ledger_reach (first_of h at x)
unfolding first_of
first_place (Some h) at x b c d = b
first_place None at (Some x) b c d = omega arith
first_place None at None b c d = tt

noted_place : (k : Profile) (h : Option Objection) (at : ℕ) (x : Option Objection) → Near ledger_reach h → at ≤ size_limit → Near entry_reach x → Near ledger_reach (noted_by k h at x)
unfolding noted_by
noted_place Plain h at x b c d = b
noted_place Strict h at x b c d = first_place h at x b c d

heard_turn : (s : List ℕ) (at : ℕ) (h : Option Objection) → Heard s at h → at < length s → (m : ℕ) (rs : List Row) → entry_of (drop at s) ≡ got m rs
    → Heard s (at + m) (first_of h at (entry_objection (kind_of rs) m (drop at s)))
heard_turn s at h g l m rs e =
    let new = moved (0 + at) g.line rs in
    record {
      rows = g.rows ++ new;
      line = g.line + feeds (take m (drop at s));
      rest =
          g.rest
          ∙ ap (after g.rows) (read_on 0 s at g.line m rs l e)
          ∙ after_after g.rows new (read_from (length s - (at + m)) (0 + (at + m)) (g.line + feeds (take m (drop at s))) (drop (at + m) s));
      held = λ w.
          bad_append s g.rows new w
          ∙ g.held (first_refused s new w)
          ∙ ap (held_as h) (ap (λ z. first_refused s (moved z g.line rs) w) (zero-add at) ∙ bad_moved s at g.line rs w ∙ entry_bad at (drop at s) m w rs e)
          ∙ held_first h (entry_objection (kind_of rs) m (drop at s)) at w;
    }

module _ (a : ℕ) (s u : List ℕ) (at n : ℕ) (t : List ℕ) (g : Reached a s u at n t) (h : at < length s) (r : Result Entry Refused)
    (w₀ : r ≡ entry_answer (entry_of (take (length s - at) (drop at s)))) (y₀ : Entry) (e : r ≡ Ok y₀) (k : Profile) (o p : Option Objection)
    (ep : p ≡ noted_by k o at (entry_objection y₀.kind y₀.size (take (length s - at) (drop at s)))) where
  pub turn_judged : Judged k s at o → Judged k s (at + y₀.size) p
  unfolding noted_by
  turn_judged j =
      let z = turn_was a s u at n t g h r w₀ y₀ e in
      let x : entry_objection y₀.kind y₀.size (take (length s - at) (drop at s)) ≡ entry_objection (kind_of z.0) y₀.size (drop at s) =
      ap (λ i. entry_objection i y₀.size (take (length s - at) (drop at s))) z.3 ∙ ap (entry_objection (kind_of z.0) y₀.size) (rest_of s at) in
      go k z.0 z.1 (ep ∙ ap (noted_by k o at) x) j
    where
      go : (k : Profile) (rs : List Row) → entry_of (drop at s) ≡ got y₀.size rs → p ≡ noted_by k o at (entry_objection (kind_of rs) y₀.size (drop at s)) → Judged k s at o → Judged k s (at + y₀.size) p
      go Plain rs f y j = y ∙ j
      go Strict rs f y j = subst (Heard s (at + y₀.size)) (sym y) (heard_turn s at o j h y₀.size rs f)

  pub turn_near : a + length s ≤ size_limit → Near ledger_reach o → Near ledger_reach p
  turn_near l b =
      subst (Near ledger_reach) (sym ep)
      (noted_place k o at _ b (omega arith) (objection_near y₀.kind y₀.size (take (length s - at) (drop at s)) entry_reach (omega (arith, ap length (rest_of s at), length-drop at s))))

-- ---- what a scan answers

module _ (a : ℕ) (s : List ℕ) where
  scan_moved : scanned a s ≡ moved_reading a 0 (scanned 0 s)
  unfolding scanned
  scan_moved = ap (λ z. read_from (length s) z 1 s) (sym (add-zero a)) ∙ read_move (length s) a 0 0 1 s

  -- a refusal of plain reading stays
  pub denied_by : (k : Profile) (n p : ℕ) → scanned a s ≡ denied n p → scanned_by k a s ≡ denied n p
  unfolding strictly
  denied_by Plain n p e = e
  denied_by Strict n p e = go (scanned 0 s) refl (sym scan_moved ∙ e)
    where
      go : (x : Reading) → scanned 0 s ≡ x → moved_reading a 0 x ≡ denied n p → moved_reading a 0 (strictly s x) ≡ denied n p
      go (accepted rs) f q = absurd (let z : ◌≡◌ {A = ℕ} 0 1 = cc in omega arith)
      go (denied j i) f q = q

module _ (a : ℕ) (s u : List ℕ) (at n : ℕ) (t : List ℕ) (g : Reached a s u at n t) (h : length s ≤ at) (o : Option Objection) where
  heard_all : (H : Heard s at o) → scanned 0 s ≡ accepted H.rows
  heard_all H =
      let e : read_from (length s - at) (0 + at) H.line (drop at s) ≡ accepted [] = rw (drop_of_length-le s {i = at} h) (read_nil (length s - at) (0 + at) H.line) in
      H.rest ∙ ap (after H.rows) e ∙ ap accepted (append-nil H.rows)

  ended_is : (k : Profile) → Judged k s at o → scanned_by k a s ≡ held_by a o (accepted g.rows)
  unfolding strictly
  ended_is Plain j = rw j (scan_accepted a s u at n t g h)
  ended_is Strict H =
      let e : accepted g.rows ≡ accepted (moved a 0 H.rows) = sym (scan_accepted a s u at n t g h) ∙ scan_moved a s ∙ ap (moved_reading a 0) (heard_all H) in
      ap (λ x. moved_reading a 0 (strictly s x)) (heard_all H) ∙ ap (moved_reading a 0) (H.held (accepted H.rows)) ∙ go o ∙ ap (held_by a o) (sym e)
    where
      go : (o : Option Objection) → moved_reading a 0 (held_as o (accepted H.rows)) ≡ held_by a o (accepted (moved a 0 H.rows))
      go None = refl
      go (Some x) = refl

  module _ (k : Profile) (j : Judged k s at o) where
    pub ended_answer : (r : Result ℕ Refused) → r ≡ ended_scan a n o → r ≡ scan_answer (scanned_by k a s)
    unfolding ended_scan scan_answer
    ended_answer r e = e ∙ go o ∙ ap scan_answer (sym (ended_is k j))
      where
        go : (o : Option Objection) → ended_scan a n o ≡ scan_answer (held_by a o (accepted g.rows))
        go None = ap Ok g.count
        go (Some x) = refl

    pub ended_poured : ScanPoured (scanned_by k a s) u t
    ended_poured = subst (λ x. ScanPoured x u t) (sym (ended_is k j)) (go o)
      where
        go : (o : Option Objection) → ScanPoured (held_by a o (accepted g.rows)) u t
        go None = g.table
        go (Some x) = tt

module _ (a : ℕ) (s u : List ℕ) (at n : ℕ) (t : List ℕ) (g : Reached a s u at n t) (h : at < length s) (r : Result Entry Refused)
    (w₀ : r ≡ entry_answer (entry_of (take (length s - at) (drop at s)))) (x : Refused) (e : r ≡ Err x) (k : Profile) where
  pub turn_stop : (z : Refused) → z ≡ refused_with x.number (a + at + x.place) 0 → Err z ≡ scan_answer (scanned_by k a s)
  unfolding scan_answer
  turn_stop z q = rw (denied_by a s k x.number (a + at + x.place) (scan_denied a s u at n t g h r w₀ x e), q)

  pub turn_left : (v : List ℕ) → ScanPoured (scanned_by k a s) u v
  turn_left v = rw (denied_by a s k x.number (a + at + x.place) (scan_denied a s u at n t g h r w₀ x e)) tt

-- ---- what the judgement of an entry needs

module _ (a : ℕ) (s : List ℕ) (at : ℕ) (l : a + length s ≤ size_limit) where
  pub at_small : at < length s → at ≤ size_limit
  at_small h = omega arith

  pub base_small : a ≤ size_limit
  base_small = omega arith

pub ruleset judge_laws = (scan_laws, judged_start, turn_judged, turn_near, ended_answer, ended_poured, turn_stop, turn_left, at_small, base_small)
