-- A ledger written afresh, whose working space is lent in the front of a buffer.
use Rattle.replay.specs.declared.call.Reply.{Reply}
use Rattle.std.specs.Prelude.{Option, Some}
use Prim.Native.Nat.{ℕ, ◌-◌}
use native.Mathlib.Omega.{arith}
use mathlib.Core.Path.{◌≡◌, sym, ◌∙◌, ap}
use mathlib.Core.Bool.{Bool}
use mathlib.Core.List.{List, ◌++◌}
use borrow.Rule.Slice.PartMut.{put_mid}
use lib.ListN.{length, take, drop}
use lib.Seq.{take_all}
use Rattle.ledger.specs.Plain.{plain}
use Rattle.rewrite.specs.Rewriting as rewrite
use Rattle.lumbrisse.specs.Promises.{WritePromise}
use Rattle.lumbrisse.specs.declared.reply as box
use Rattle.replay.specs.declared.case.Case.{Case}
use Rattle.replay.specs.Replies.{wiped, of_spaced, rewritten, rewritten_left}
use Rattle.replay.proofs.SpaceLaws.{front_lent, front_back}

-- x is the buffer, a as the working space u is copied to its front, v what is left of that front
module _ (c : Case) (s u t : List ℕ) (n : ℕ) (en : n ≡ length u) (x a v t' : List ℕ) (ea : a ≡ take n (drop 0 u) ++ drop n x) (r : box.Reply.Reply)
    (P : WritePromise s t (take (n - 0) (drop 0 a)) r t' v) where
  whole_is : take n u ≡ u
  whole_is = take_all n u (omega arith)

  lent_is : take (n - 0) (drop 0 a) ≡ u
  lent_is = front_lent (take n u) x a n (ap length whole_is ∙ sym en) ea ∙ whole_is

  pub afresh_left : t' ≡ rewritten_left s u t
  afresh_left = P.output ∙ rw lent_is

  pub afresh_told : length v ≡ length (take (n - 0) (drop 0 a)) → (kept : Bool) → kept ≡ wiped c.d u (take (n - 0) (drop 0 (put_mid 0 (n - 0) a v)))
      → (o : Option Reply) → o ≡ Some (of_spaced r kept) → o ≡ rewritten c s u t
  afresh_told lv kept ek o e =
      let lu : length v ≡ n = lv ∙ ap length lent_is ∙ sym en in
      let z : n - 0 ≡ n = omega arith in
      let back : take (n - 0) (drop 0 (put_mid 0 (n - 0) a v)) ≡ rewrite.work_left u (plain s) =
      ap (λ (i : ℕ). take i (put_mid 0 (n - 0) a v)) z ∙ front_back a v n lu ∙ P.work ∙ rw lent_is in
      e ∙ rw (ek, back, P.reply, lent_is)
