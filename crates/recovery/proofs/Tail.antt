-- Demand 3, proved.
use Prim.Native.Nat.{ℕ, zero, suc, ◌+◌, ◌<◌, ◌≤◌}
use native.Mathlib.Nat.{zero-add}
use native.Mathlib.Omega.{arith}
use mathlib.Core.Path.{◌≡◌, sym, ap, subst, ◌∙◌}
use mathlib.Core.Logic.{⊎_elim}
use mathlib.Core.List.{List, [], ◌∷◌, ◌++◌, append-nil, map-append}
use borrow.Author.Tests.{le-leb}
use lib.ListN.{length, take, drop, drop_of_length-le, take-append-drop, length-append, length-take, length-drop}
use lib.Seq.{take_all, drop-append_seam}
use Rattle.row.specs.declared.table.Row.{Row}
use Rattle.row.specs.Row.{feeds, room}
use Rattle.row.proofs.PourLaws.{le_or_lt}
use Rattle.entry.specs.Strings.{strings, NoneHolds}
use Rattle.entry.proofs.StringsLaws.{none_second}
use Rattle.ledger.specs.Plain.{move, moved, accepted}
use Rattle.ledger.specs.Strict.{part_by}
use Rattle.ledger.specs.declared.scan.Profile.{Profile}
use Rattle.ledger.specs.Answers.{answer, left}
use Rattle.ledger.proofs.MoveLaws.{moved_moved}
use Rattle.ledger.proofs.ReadLaws.{rows_stay}
use Rattle.ledger.proofs.StringsMoved.{strings_moved}
use Rattle.ledger.proofs.PlainLaws.{accepted_same}
use Rattle.recovery.specs.Recovering.{block_length, block_rows, recover_by, recovered_by}
use Rattle.recovery.specs.Demand3.{Given, then_tail, Demand3, Demand3Call, Undamaged}
use Rattle.recovery.proofs.BlockLaws.{block_le, block_some, block_boundary, recover_nil, recover_step, recover_append}
use Rattle.recovery.proofs.CallLaws.{starts_is, ends_is, recovered_is}
use Rattle.recovery.proofs.ProfileLaws.{by_nil, by_part, by_size, by_cut}

none_behind : (x y : List ℕ) (l : ℕ) (us vs rs : List Row) → rs ≡ us ++ moved (length x) l vs → NoneHolds (strings (x ++ y) rs) → NoneHolds (strings y vs)
none_behind x y l us vs rs e w =
    rw (strings_moved (x ++ y) (length x) l vs, drop-append_seam x y) at (none_second (x ++ y) us (moved (length x) l vs) (rw e at w))

module _ (K : Profile) where
  -- ---- recovering reading gives the plain rows of an accepted text none of whose strings holds a boundary

  two_parts : (f a l : ℕ) (s : List ℕ) (us vs rs : List Row) → 0 < length s → part_by K (take (block_length s) s) ≡ accepted us
      → recover_by K f (a + block_length s) (l + feeds (take (block_length s) s)) (drop (block_length s) s) ≡ moved (a + block_length s) (l + feeds (take (block_length s) s)) vs
      → rs ≡ us ++ moved (length (take (block_length s) s)) (feeds (take (block_length s) s)) vs → recover_by K (suc f) a l s ≡ moved a l rs
  unfolding block_rows
  two_parts f a l s us vs rs h eu ev er =
      let lx : length (take (block_length s) s) ≡ block_length s = rw length-take (omega (arith, block_le s)) in
      rw (recover_step K f a l s h, eu, ev, er, map-append (move a l) us, lx, moved_moved a l (block_length s) (feeds (take (block_length s) s)) vs)

  plain_step : (f a l : ℕ) (s : List ℕ) (rs : List Row) → 0 < length s → length s ≤ suc f → part_by K s ≡ accepted rs → NoneHolds (strings s rs)
      → ((n k : ℕ) (z : List ℕ) (vs : List Row) → length z ≤ f → part_by K z ≡ accepted vs → NoneHolds (strings z vs) → recover_by K f n k z ≡ moved n k vs)
      → recover_by K (suc f) a l s ≡ moved a l rs
  unfolding block_rows
  plain_step f a l s rs h hf e ww ih =
      ⊎_elim
      (λ (w : 1 ≤ length y).
      let b = block_boundary s w in
      let w2 : NoneHolds (strings (x ++ y) rs) = rw (take-append-drop n s) ww in
      let c = by_cut K x y rs b.0 b.1 (rw (take-append-drop n s) e) w2 in
      two_parts f a l s c.0 c.1 rs h c.2 (ih (a + n) (l + feeds x) y c.1 ly c.3 (none_behind x y (feeds x) c.0 c.1 rs c.4 w2)) c.4)
      (λ (w : length y < 1).
      let ex : x ≡ s = take_all n s (omega (arith, length-drop n s)) in
      let ey : y ≡ [] = drop_of_length-le s {i = n} (omega (arith, length-drop n s)) in
      rw (recover_step K f a l s h, ey, ex, e, recover_nil K) (append-nil (moved a l rs)))
      (le_or_lt 1 (length y))
    where
      n : ℕ
      n = block_length s

      x : List ℕ
      x = take n s

      y : List ℕ
      y = drop n s

      ly : length y ≤ f
      ly = rw length-drop (omega (arith, block_some s h))

  recover_plain : (f a l : ℕ) (s : List ℕ) (rs : List Row) → length s ≤ f → part_by K s ≡ accepted rs → NoneHolds (strings s rs) → recover_by K f a l s ≡ moved a l rs
  recover_plain zero a l [] rs h e w = rw (recover_nil K zero a l, by_nil K rs e)
  recover_plain zero a l (c ∷ s) rs h e w = absurd (omega arith)
  recover_plain (suc f) a l [] rs h e w = rw (recover_nil K (suc f) a l, by_nil K rs e)
  recover_plain (suc f) a l (c ∷ s) rs h e w = plain_step f a l (c ∷ s) rs (omega arith) h e w (λ n k z vs p q r. recover_plain f n k z vs p q r)

  -- ---- a ledger that is not damaged

  pub undamaged : Undamaged K
  undamaged s rs e w =
      let h = by_size K s rs e in
      recovered_is K s h ∙ ap accepted (recover_plain (length s) 0 0 s rs (omega arith) (sym (by_part K s h) ∙ e) w ∙ rows_stay rs) ∙ sym e

  -- ---- what stands before the tail

  tail_rows : (p t : List ℕ) (ts : List Row) → Given K p t ts → recover_by K (length (p ++ t)) 0 0 (p ++ t) ≡ then_tail (recover_by K (length p) 0 0 p) p ts
  tail_rows p t ts g =
      let n : length (p ++ t) ≡ length p + length t = length-append p t in
      let q : part_by K t ≡ accepted ts = sym (by_part K t (omega (arith, g.size))) ∙ g.read in
      recover_append K t (starts_is t g.starts) (length (p ++ t)) (length p) (length t) 0 0 p (omega arith) (omega arith) (omega arith) (ends_is p g.ends)
      ∙ rw (zero-add (length p), zero-add (feeds p)) (ap (λ z. recover_by K (length p) 0 0 p ++ z) (recover_plain (length t) (length p) (feeds p) t ts (omega arith) q g.strings))

  pub demand_3 : Demand3 K
  demand_3 p t ts g =
      record {
        before = recover_by K (length p) 0 0 p;
        alone = recovered_is K p (omega (arith, g.size, length-append p t));
        together = recovered_is K (p ++ t) g.size ∙ ap accepted (tail_rows p t ts g);
      }

  -- ---- the call

  pub demand_3_call : Demand3Call K
  unfolding answer left
  demand_3_call p t ts ps table g e fits =
      let d = demand_3 p t ts g in
      let s : d.before ≡ ps = accepted_same d.before ps (sym d.alone ∙ e) in
      let w : recovered_by K (p ++ t) ≡ accepted (then_tail ps p ts) = subst (λ z. recovered_by K (p ++ t) ≡ accepted (then_tail z p ts)) s d.together in
      record {
        answers = rw (w, le-leb (length (then_tail ps p ts)) (room table) fits);
        leaves = rw (w, le-leb (length (then_tail ps p ts)) (room table) fits);
      }
