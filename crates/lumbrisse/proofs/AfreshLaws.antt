-- What an accepted call wrote is what is written of the ledger.
use Rattle.text.specs.Refusals.{refused_with}
use Rattle.std.specs.Prelude.{Err, Ok}
use Prim.Native.Nat.{ℕ, ◌*◌, ◌≤◌}
use native.Mathlib.Omega.{arith}
use mathlib.Core.Path.{◌≡◌, refl, sym, ap, subst}
use mathlib.Core.Bool.{Bool, true, false, cond}
use mathlib.Core.List.{List, ◌++◌}
use lib.Dec.{leb}
use lib.ListN.{length, take, drop}
use lib.Seq.{take_at}
use Rattle.text.specs.Permitted.{size_limit}
use Rattle.row.specs.declared.table.Row.{Row}
use Rattle.row.specs.Row.{width}
use Rattle.ledger.specs.Plain.{Reading, accepted, plain}
use Rattle.layout.specs.Written.{written}
use Rattle.layout.proofs.Rewrites.{m_103}
use Rattle.rewrite.specs.Rewriting.{answered, output_left}
use Rattle.lumbrisse.specs.declared.reply.Reply.{Reply}
use Rattle.lumbrisse.specs.Numbers.{replied, reply_of}
use Rattle.lumbrisse.specs.Promises.{WritePromise}
use Rattle.lumbrisse.specs.Afresh.{SaysTheSame, WritesTheSame}

nine_refused : (p c : ℕ) (r : Reply) → r ≡ replied 9 p c → r.number ≡ 0 → ⊥
nine_refused p c r e z = let y : r.number ≡ 9 = ap (λ (x : Reply). x.number) e in omega arith

module _ (s : List ℕ) (rs : List Row) (o w : List ℕ) (r : Reply) (o' w' : List ℕ) (a : plain s ≡ accepted rs) (P : WritePromise s o w r o' w') (z : r.number ≡ 0) where
  wrote : (r.count ≡ length (written s rs)) × (o' ≡ written s rs ++ drop (length (written s rs)) o)
  unfolding answered output_left reply_of
  wrote =
      go (leb (length rs * width) (length w)) (leb (length (written s rs)) (length o)) (subst (λ (x : Reading). r ≡ reply_of (answered s (length o) (length w) x)) a P.reply)
      (subst (λ (x : Reading). o' ≡ output_left s (length w) o x) a P.output)
    where
      go : (b c : Bool) → r ≡ reply_of (cond b (cond c (Ok (length (written s rs))) (Err (refused_with 9 0 (length (written s rs))))) (Err (refused_with 9 1 (length rs * width))))
          → o' ≡ cond b (cond c (written s rs ++ drop (length (written s rs)) o) o) o → (r.count ≡ length (written s rs)) × (o' ≡ written s rs ++ drop (length (written s rs)) o)
      go true true e f = (ap (λ (x : Reply). x.count) e, f)
      go true false e f = absurd (nine_refused 0 (length (written s rs)) r e z)
      go false c e f = absurd (nine_refused 1 (length rs * width) r e z)

  pub text_is : take r.count o' ≡ written s rs
  text_is = rw (wrote.0, wrote.1) (take_at (written s rs) (drop (length (written s rs)) o) (length (written s rs)) refl)

pub writes_the_same : WritesTheSame
writes_the_same s rs o w r o' w' a q P z h =
    let R = m_103 s rs a q (subst (λ (n : ℕ). n ≤ size_limit) (wrote s rs o w r o' w' a P z).0 h) in
    subst (SaysTheSame s rs) (sym (text_is s rs o w r o' w' a P z)) (record { rows = R.rows; reads = R.reads; same = R.same; again = R.again })
