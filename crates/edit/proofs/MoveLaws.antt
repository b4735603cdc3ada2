-- Recovering reading further on gives its rows moved, the q of a kind 90 too; and at a boundary the rows of both sides
-- come one after the other.
use Prim.Native.Nat.{ℕ, zero, suc, ◌+◌, ◌≤◌, ◌<◌}
use native.Mathlib.Nat.{add_assoc}
use native.Mathlib.Omega.{arith}
use mathlib.Core.Path.{◌≡◌, refl}
use mathlib.Core.Bool.{Bool, true, false, cond, ◌||◌}
use mathlib.Core.List.{List, [], ◌∷◌, ◌++◌, map, map-append, append-nil}
use borrow.Author.Tests.{ne_eqb}
use lib.Dec.{eqb}
use lib.ListN.{length, get_or, take, drop}
use Rattle.text.specs.Every.{Every}
use Rattle.row.specs.declared.table.Row.{Row}
use Rattle.row.specs.Row.{row_of, feeds}
use Rattle.row.specs.Details.{spanned}
use Rattle.text.specs.Boundaries.{is_start}
use Rattle.amount.proofs.RowCounts.{refusal_kind}
use Rattle.entry.proofs.EntryLines.{OnLine}
use Rattle.entry.proofs.EntryCut.{Ends}
use Rattle.ledger.specs.Plain.{move, moved, Reading, accepted, denied, part}
use Rattle.ledger.proofs.PlainLaws.{part_kept}
use Rattle.ledger.specs.declared.scan.Profile.TheVariants.{Plain}
use Rattle.recovery.specs.Recovering.{block_length, block_rows, recover_by, recover_from}
use Rattle.recovery.proofs.BlockLaws.{recover_nil, recover_step, recover_bound, append_none, recover_append}

-- a row of recovering reading, a bytes and l lines further on
unfoldable pub move_all : ℕ → ℕ → Row → Row
move_all a l r =
    record {
      kind = r.kind;
      start = a + r.start;
      end = a + r.end;
      line = l + r.line;
      p = cond (spanned r.kind) (a + r.p) r.p;
      q = cond (spanned r.kind || eqb r.kind refusal_kind) (a + r.q) r.q;
      bits = r.bits;
    }

cond_p : (t : Bool) (a b p : ℕ) → cond t (a + b + p) p ≡ cond t (a + cond t (b + p) p) (cond t (b + p) p)
cond_p true a b p = add_assoc a b p
cond_p false a b p = refl

cond_q : (t : Bool) (a b p : ℕ) → cond t (a + b + p) p ≡ cond (t || false) (a + cond t (b + p) p) (cond t (b + p) p)
cond_q true a b p = add_assoc a b p
cond_q false a b p = refl

move_all_lem : (a l b m : ℕ) (r : Row) → r.kind < refusal_kind → move (a + b) (l + m) r ≡ move_all a l (move b m r)
unfolding move move_all
move_all_lem a l b m r h =
    rw (
      ne_eqb r.kind refusal_kind (λ z. omega arith),
      ← cond_p (spanned r.kind) a b r.p,
      ← cond_q (spanned r.kind) a b r.q,
      add_assoc a b r.start,
      add_assoc a b r.end,
      add_assoc l m r.line,
    )

moved_all : (a l b m : ℕ) (s : List ℕ) (rs : List Row) → Every (OnLine refusal_kind 0 1 s) rs → moved (a + b) (l + m) rs ≡ map (move_all a l) (moved b m rs)
moved_all a l b m s [] e = refl
moved_all a l b m s (r ∷ rs) (e, es) = rw (move_all_lem a l b m r e.kind, moved_all a l b m s rs es)

block_all : (a l b m n : ℕ) (x : List ℕ) (w : Reading) → part x ≡ w → block_rows (a + b) (l + m) n w ≡ map (move_all a l) (block_rows b m n w)
unfolding block_rows row_of move_all spanned
block_all a l b m n x (accepted rs) e = moved_all a l b m x rs (part_kept x rs e).lines
block_all a l b m n x (denied k p) e = rw (add_assoc a b n, add_assoc l m 1, add_assoc a b p)

all_step : (f a l b m : ℕ) (s : List ℕ) → 0 < length s → ((c k : ℕ) (z : List ℕ) → recover_from f (a + c) (l + k) z ≡ map (move_all a l) (recover_from f c k z))
    → recover_from (suc f) (a + b) (l + m) s ≡ map (move_all a l) (recover_from (suc f) b m s)
all_step f a l b m s h ih =
    let n = block_length s in
    let x = take n s in
    rw (
      recover_step Plain f (a + b) (l + m) s h,
      recover_step Plain f b m s h,
      map-append (move_all a l) (block_rows b m n (part x)) (recover_from f (b + n) (m + feeds x) (drop n s)),
      ← block_all a l b m n x (part x) refl,
      ← ih (b + n) (m + feeds x) (drop n s),
      add_assoc a b n,
      add_assoc l m (feeds x),
    )

pub recover_all : (f a l b m : ℕ) (s : List ℕ) → recover_from f (a + b) (l + m) s ≡ map (move_all a l) (recover_from f b m s)
unfolding recover_by
recover_all zero a l b m s = refl
recover_all (suc f) a l b m [] = refl
recover_all (suc f) a l b m (c ∷ s) = all_step f a l b m (c ∷ s) (omega arith) (λ c k z. recover_all f a l c k z)

-- ---- texts side by side

abbrev pub Joined : List ℕ → List ℕ → Type 0
Joined p t = 0 < length p → 0 < length t → Ends p × (is_start (get_or t 0 0) ≡ true)

pub joined_rows : (f g h a l : ℕ) (p t : List ℕ) → Joined p t → length p + length t ≤ f → length p ≤ g → length t ≤ h
    → recover_from f a l (p ++ t) ≡ recover_from g a l p ++ recover_from h (a + length p) (l + feeds p) t
unfolding feeds
joined_rows f g h a l [] t j hf hg hh = append_none Plain t f g h a l (omega arith) hh
joined_rows f g h a l (b ∷ p) [] j hf hg hh =
    rw (append-nil p, recover_nil Plain h (a + length (b ∷ p)) (l + feeds (b ∷ p)), append-nil (recover_from g a l (b ∷ p))) (recover_bound Plain f g a l (b ∷ p) (omega arith) hg)
joined_rows f g h a l (b ∷ p) (d ∷ t) j hf hg hh =
    let k = j (omega arith) (omega arith) in
    recover_append Plain (d ∷ t) k.1 f g h a l (b ∷ p) hf hg hh k.0
