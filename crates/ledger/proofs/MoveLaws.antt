-- A text read further on gives its rows moved, and any bound on the entries that is enough gives the same.
use Prim.Native.Nat.{ℕ, zero, suc, ◌+◌, ◌≤◌, ◌<◌}
use native.Mathlib.Nat.{add_assoc}
use native.Mathlib.Omega.{arith}
use mathlib.Core.Path.{◌≡◌, refl, sym, ap}
use mathlib.Core.Bool.{Bool, true, false, cond}
use mathlib.Core.List.{List, [], ◌∷◌, ◌++◌, map-append, append_assoc}
use lib.ListN.{length, take, drop, length-drop}
use Rattle.row.specs.declared.table.Row.{Row}
use Rattle.row.specs.Row.{feeds}
use Rattle.row.specs.Details.{spanned}
use Rattle.entry.specs.Entry.{Reads, got, refuse, entry_of}
use Rattle.entry.proofs.EntryForms.{entry_sound}
use Rattle.ledger.specs.Plain.{move, moved, Reading, accepted, denied, after, read_from}
use Rattle.ledger.specs.steps.Scan.{moved_reading}
use Rattle.ledger.proofs.PlainLaws.{read_nil, read_got, read_refuse}

-- ---- rows before a reading

pub after_none : (x : Reading) → after [] x ≡ x
after_none (accepted rs) = refl
after_none (denied n p) = refl

pub after_after : (ds es : List Row) (x : Reading) → after ds (after es x) ≡ after (ds ++ es) x
after_after ds es (accepted rs) = ap accepted (sym (append_assoc ds es rs))
after_after ds es (denied n p) = refl

-- ---- moving

cond_move : (t : Bool) (a b p : ℕ) → cond t (a + cond t (b + p) p) (cond t (b + p) p) ≡ cond t (a + b + p) p
cond_move true a b p = sym (add_assoc a b p)
cond_move false a b p = refl

pub moved_moved : (a l b m : ℕ) (rs : List Row) → moved a l (moved b m rs) ≡ moved (a + b) (l + m) rs
unfolding move
moved_moved a l b m [] = refl
moved_moved a l b m (r ∷ rs) =
    rw (
      cond_move (spanned r.kind) a b r.p,
      cond_move (spanned r.kind) a b r.q,
      ← add_assoc a b r.start,
      ← add_assoc a b r.end,
      ← add_assoc l m r.line,
      moved_moved a l b m rs,
    )

moved_after : (a l : ℕ) (ds : List Row) (x : Reading) → moved_reading a l (after ds x) ≡ after (moved a l ds) (moved_reading a l x)
moved_after a l ds (accepted rs) = ap accepted (map-append (move a l) ds rs)
moved_after a l ds (denied n p) = refl

move_step : (f a l b m : ℕ) (s : List ℕ) → 0 < length s
    → ((n k : ℕ) (z : List ℕ) → read_from f (a + n) (l + k) z ≡ moved_reading a l (read_from f n k z))
    → read_from (suc f) (a + b) (l + m) s ≡ moved_reading a l (read_from (suc f) b m s)
move_step f a l b m s h ih = go (entry_of s) refl
  where
    go : (r : Reads) → entry_of s ≡ r → read_from (suc f) (a + b) (l + m) s ≡ moved_reading a l (read_from (suc f) b m s)
    go (got n rs) e =
        rw (
          read_got f (a + b) (l + m) s n rs h e,
          read_got f b m s n rs h e,
          moved_after,
          moved_moved a l b m rs,
          add_assoc a b n,
          add_assoc l m (feeds (take n s)),
        )
        (ap (after (moved (a + b) (l + m) rs)) (ih (b + n) (m + feeds (take n s)) (drop n s)))
    go (refuse k p) e = rw (read_refuse f (a + b) (l + m) s k p h e, read_refuse f b m s k p h e, add_assoc a b p)

pub read_move : (f a l b m : ℕ) (s : List ℕ) → read_from f (a + b) (l + m) s ≡ moved_reading a l (read_from f b m s)
unfolding read_from
read_move zero a l b m s = refl
read_move (suc f) a l b m [] = refl
read_move (suc f) a l b m (c ∷ s) = move_step f a l b m (c ∷ s) (omega arith) (λ n k z. read_move f a l n k z)

-- ---- the bound on the entries

bound_step : (f g a l : ℕ) (s : List ℕ) → 0 < length s → length s ≤ suc f → length s ≤ suc g
    → ((n k : ℕ) (z : List ℕ) → length z ≤ f → length z ≤ g → read_from f n k z ≡ read_from g n k z) → read_from (suc f) a l s ≡ read_from (suc g) a l s
bound_step f g a l s h hf hg ih = go (entry_of s) refl
  where
    go : (r : Reads) → entry_of s ≡ r → read_from (suc f) a l s ≡ read_from (suc g) a l s
    go (got n rs) e =
        let x = entry_sound s n rs e in
        rw (read_got f a l s n rs h e, read_got g a l s n rs h e)
        (ap (after (moved a l rs)) (ih (a + n) (l + feeds (take n s)) (drop n s) (rw length-drop (omega arith)) (rw length-drop (omega arith))))
    go (refuse k p) e = rw (read_refuse f a l s k p h e, read_refuse g a l s k p h e)

pub read_bound : (f g a l : ℕ) (s : List ℕ) → length s ≤ f → length s ≤ g → read_from f a l s ≡ read_from g a l s
read_bound zero g a l [] hf hg = rw (read_nil zero a l, read_nil g a l)
read_bound (suc f) g a l [] hf hg = rw (read_nil (suc f) a l, read_nil g a l)
read_bound zero g a l (c ∷ s) hf hg = absurd (omega arith)
read_bound (suc f) zero a l (c ∷ s) hf hg = absurd (omega arith)
read_bound (suc f) (suc g) a l (c ∷ s) hf hg = bound_step f g a l (c ∷ s) (omega arith) hf hg (λ n k z p q. read_bound f g n k z p q)
