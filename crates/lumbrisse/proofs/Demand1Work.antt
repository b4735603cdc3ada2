-- Demand 1 of the calls that are lent working space: totals, and a ledger written afresh.
use Rattle.text.specs.declared.stop.Refused.{Refused}
use Rattle.std.specs.Prelude.{Err, Ok, Result}
use Prim.Native.Nat.{ℕ, ◌+◌, ◌*◌, ◌<◌}
use native.Mathlib.Omega.{arith}
use mathlib.Core.Path.{◌≡◌, refl, sym, ◌∙◌, ap, subst}
use mathlib.Core.Bool.{Bool, true, false, cond, ◌&&◌}
use mathlib.Core.Logic.{◌⊎◌, inl, inr}
use mathlib.Core.List.{List, [], ◌∷◌, ◌++◌, map}
use borrow.Author.Tests.{leb-true, leb-false}
use lib.Dec.{leb}
use lib.ListN.{length, drop, length-map}
use Rattle.text.specs.Refusals.{Refusal, refused_with}
use Rattle.text.proofs.EveryLaws.{one_left}
use Rattle.row.specs.declared.table.Row.{Row}
use Rattle.row.specs.Work.{cleared}
use Rattle.ledger.specs.Plain.{Reading, accepted, denied, plain}
use Rattle.order.specs.Records.{record_width}
use Rattle.order.specs.Groups.{Item, is_known, counted}
use Rattle.totals.specs.Totals.{totals_of, item_row, need, is_month, Outcome, early, late, gives, settled, decided, answer_of, items_left, work_left}
use Rattle.totals.proofs.JoinLaws.{counted_length}
use Rattle.layout.specs.Written.{written}
use Rattle.rewrite.specs.Rewriting as rewrite
use Rattle.lumbrisse.specs.declared.reply.Reply.{Reply}
use Rattle.lumbrisse.specs.Numbers.{replied, reply_of}
use Rattle.lumbrisse.specs.Promises.{TotalsPromise, WritePromise}
use Rattle.lumbrisse.specs.Demand1.{Answers, accepts, lacks, refuses, plain_numbers, HasBytes, NoSpace}
use Rattle.lumbrisse.specs.Demand1Requests.{Early, left, zeros, NoWork, HasItems, NoRoomForItems, NoTotals, Totals, Writes}
use Rattle.lumbrisse.proofs.Demand1Reads.{at_front, accepted_denied, bytes_written}
use Rattle.lumbrisse.proofs.Demand1Items.{large_within}

-- a list with more numbers
refusal_more : (list more : List ℕ) (size n p : ℕ) → Refusal list size n p → Refusal (list ++ more) size n p
refusal_more list more size n p R = record { listed = one_left list more n R.listed; within = R.within; front = R.front }

-- ---- what is judged before working space is used, and what is not

module _ (s : List ℕ) (n p c : ℕ) (r : Reply) (e : r ≡ replied n p c) where
  number_is : r.number ≡ n
  number_is = ap (λ (x : Reply). x.number) e

  place_is : r.place ≡ p
  place_is = ap (λ (x : Reply). x.place) e

  denied_early : plain s ≡ denied n p → Early s r
  denied_early d = inl (d ∙ sym (ap (λ (x : Reply). denied x.number x.place) e))

  not_early : (rs : List Row) → plain s ≡ accepted rs → (n ≡ 15 → ⊥) → (n ≡ 9 → p ≡ 1 → ⊥) → Early s r → ⊥
  not_early rs d f g (inl h) = accepted_denied rs r.number r.place (sym d ∙ h)
  not_early rs d f g (inr (inl h)) = f (sym number_is ∙ h)
  not_early rs d f g (inr (inr (h, k))) = g (sym number_is ∙ h) (sym place_is ∙ k)

-- ---- totals

-- a sum that is too large is refused with 6, and without a count
counted_six : (place : Row → ℕ) (k : ℕ) (is : List (Item Row)) (x : Refused) → counted place k is ≡ Err x → x ≡ refused_with 6 x.place 0
unfolding counted
counted_six place k [] x e = absurd (let z : ◌≡◌ {A = ℕ} 0 1 = cc in omega arith)
counted_six place k (i ∷ is) x e = go (is_known i.sum) (counted_six place (k + 1) is x) e
  where
    go : (b : Bool) → (counted place (k + 1) is ≡ Err x → x ≡ refused_with 6 x.place 0) → cond b (counted place (k + 1) is) (Err (refused_with 6 (place i.first) 0)) ≡ Err x
        → x ≡ refused_with 6 x.place 0
    go true h f = h f
    go false h f = let y : refused_with 6 (place i.first) 0 ≡ x = cc in subst (λ (z : Refused). z ≡ refused_with 6 z.place 0) y refl

module _ (s : List ℕ) (plain_refusal : (n p : ℕ) → plain s ≡ denied n p → Refusal plain_numbers (length s) n p)
    (y m : ℕ) (t w v : List ℕ) (r : Reply) (t' w' v' : List ℕ) where
  abbrev Answered : Type 0
  Answered =
      NoWork s (need y m) (λ n. (length w < n) ⊎ (length v < n)) (t' ≡ t) r
      ⊎ Answers (plain_numbers ++ (15 ∷ [])) (length s) (HasItems s y m t t') (NoRoomForItems s y m t) (NoTotals s y m) (t' ≡ t) r

  -- what a call that came to an outcome told and left
  record Came (D : Outcome) : Type 0 where
    reply : r ≡ reply_of (answer_of D)
    items : t' ≡ items_left D t
    work : w' ≡ work_left D w
    spare : v' ≡ work_left D v

  before_use : (n p c : ℕ) → Came (early n p c) → (r ≡ replied n p c → Early s r) → (r ≡ replied n p c → t' ≡ t → Answered) → Totals s y m t w v r t' w' v'
  unfolding reply_of answer_of items_left work_left
  before_use n p c C is told =
      record { answer = told C.reply C.items; work = left (is C.reply) C.work; spare = left (is C.reply) C.spare }

  module _ (rs : List Row) (d : plain s ≡ accepted rs) where
    abbrev is : List (Item Row)
    is = totals_of s y m rs

    after_use : (n p c : ℕ) → r ≡ replied n p c → (n ≡ 15 → ⊥) → (n ≡ 9 → p ≡ 1 → ⊥) → w' ≡ cleared (need y m rs) w → v' ≡ cleared (need y m rs) v → Answered
        → Totals s y m t w v r t' w' v'
    after_use n p c e f g h k told =
        record { answer = told; work = zeros (not_early s n p c r e rs d f g) rs d h; spare = zeros (not_early s n p c r e rs d f g) rs d k }

    large : (a : ℕ) → counted (λ r. r.start) 0 is ≡ Err (refused_with 6 a 0) → Came (late (need y m rs) 6 a 0) → Totals s y m t w v r t' w' v'
    unfolding reply_of answer_of items_left work_left
    large a q C =
        after_use 6 a 0 C.reply (λ z. omega arith) (λ z. omega arith) C.work C.spare
        (inr (refuses 6 a C.reply (inr (inr (refl, rs, d, q)))
        (record { listed = inr (inr (inr (inr (inr (inl refl))))); within = large_within s y m rs a d q; front = λ z. absurd (omega arith) }) C.items))

    counts : (c : Result ℕ Refused) → counted (λ r. r.start) 0 is ≡ c → Came (settled (need y m rs) (length t) is c) → Totals s y m t w v r t' w' v'
    unfolding settled reply_of answer_of items_left work_left
    counts (Err x) q C =
        let six : x ≡ refused_with 6 x.place 0 = counted_six (λ (r : Row). r.start) 0 is x q in
        large x.place (q ∙ ap (λ (x : Refused). Err x) six) (subst (λ (z : Refused). Came (late (need y m rs) z.number z.place z.count)) six C)
    counts (Ok k) q C = go (leb (k * record_width) (length t)) refl C
      where
        k_is : k ≡ length is
        k_is = omega (arith, counted_length (λ (r : Row). r.start) 0 k is q)

        go : (b : Bool) → leb (k * record_width) (length t) ≡ b → Came (cond b (gives (need y m rs) (map item_row is)) (late (need y m rs) 9 0 (k * record_width))) → Totals s y m t w v r t' w' v'
        go true l C =
            after_use 0 0 (length (map item_row is)) C.reply (λ z. omega arith) (λ z. omega arith) C.work C.spare
            (inr (accepts (length (map item_row is)) C.reply
            (record {
              rows = rs;
              defined = d;
              number = length-map is item_row;
              fit = omega (arith, k_is, length-map is item_row, leb-true (k * record_width) (length t) l);
              buffer = C.items;
            })))
        go false l C =
            after_use 9 0 (k * record_width) C.reply (λ z. omega arith) (λ z o. omega arith) C.work C.spare
            (inr (lacks (k * record_width) C.reply
            (record { rows = rs; defined = d; number = ap (λ (n : ℕ). n * record_width) k_is; over = leb-false (k * record_width) (length t) l }) C.items))

    short : (a b : Bool) → leb (need y m rs) (length w) ≡ a → leb (need y m rs) (length v) ≡ b → (a && b) ≡ false
        → (length w < need y m rs) ⊎ (length v < need y m rs)
    short false b e f g = inl (leb-false (need y m rs) (length w) e)
    short true false e f g = inr (leb-false (need y m rs) (length v) f)
    short true true e f g = absurd (let z : ◌≡◌ {A = ℕ} 0 1 = cc in omega arith)

    judged : (a b : Bool) → is_month m ≡ a → (leb (need y m rs) (length w) && leb (need y m rs) (length v)) ≡ b
        → Came (cond a (cond b (settled (need y m rs) (length t) is (counted (λ r. r.start) 0 is)) (early 9 1 (need y m rs))) (early 15 0 0)) → Totals s y m t w v r t' w' v'
    judged true true e f C = counts (counted (λ r. r.start) 0 is) refl C
    judged true false e f C =
        before_use 9 1 (need y m rs) C (λ q. inr (inr (number_is s 9 1 (need y m rs) r q, place_is s 9 1 (need y m rs) r q)))
        (λ q k. inl (record {
          rows = rs;
          defined = d;
          reply = q;
          over = short (leb (need y m rs) (length w)) (leb (need y m rs) (length v)) refl refl f;
          kept = k;
        }))
    judged false b e f C =
        before_use 15 0 0 C (λ q. inr (inl (number_is s 15 0 0 r q)))
        (λ q k. inr (refuses 15 0 q (inr (inl (refl, refl, e))) (at_front (plain_numbers ++ (15 ∷ [])) (length s) 15 (inr (inr (inr (inr (inr (inr (inr (inr (inl refl)))))))))) k))

  pub totals_answers : TotalsPromise s y m t w v r t' w' v' → Totals s y m t w v r t' w' v'
  unfolding decided
  totals_answers P = go (plain s) refl (record { reply = P.reply; items = P.items; work = P.work; spare = P.spare })
    where
      go : (x : Reading) → plain s ≡ x → Came (decided s y m (length t) (length w) (length v) x) → Totals s y m t w v r t' w' v'
      go (accepted rs) d C = judged rs d (is_month m) (leb (need y m rs) (length w) && leb (need y m rs) (length v)) refl refl C
      go (denied n p) d C =
          before_use n p 0 C (λ q. denied_early s n p 0 r q d)
          (λ q k. inr (refuses n p q (inl d) (refusal_more plain_numbers (15 ∷ []) (length s) n p (plain_refusal n p d)) k))

-- ---- a ledger written afresh

module _ (s : List ℕ) (plain_refusal : (n p : ℕ) → plain s ≡ denied n p → Refusal plain_numbers (length s) n p) (o w : List ℕ) (r : Reply) (o' w' : List ℕ) where
  module _ (rs : List Row) (d : plain s ≡ accepted rs) where
    abbrev size : ℕ
    size = length (written s rs)

    abbrev Gives : ℕ → Type 0
    Gives n = (rs : List Row) × (plain s ≡ accepted rs) × HasBytes (written s rs) o o' n

    abbrev Lacks : ℕ → Type 0
    Lacks n = (rs : List Row) × (plain s ≡ accepted rs) × NoSpace (written s rs) o (length (written s rs)) n

    abbrev Denies : ℕ → ℕ → Type 0
    Denies n p = plain s ≡ denied n p

    output : r ≡ reply_of (cond (leb size (length o)) (Ok size) (Err (refused_with 9 0 size)))
        → o' ≡ cond (leb size (length o)) (written s rs ++ drop size o) o → Answers plain_numbers (length s) Gives Lacks Denies (o' ≡ o) r
    unfolding reply_of
    output e f =
        bytes_written plain_numbers (length s) Gives Lacks Denies (written s rs) o o' size r (λ h. (rs, d, h)) (λ h. (rs, d, h))
        reply_of (Ok size) (Err (refused_with 9 0 size)) refl refl e f

    used : (b : Bool) → r ≡ reply_of (cond b (Ok size) (Err (refused_with 9 0 size))) → Early s r → ⊥
    unfolding reply_of
    used true e = not_early s 0 0 size r e rs d (λ z. omega arith) (λ z. omega arith)
    used false e = not_early s 9 0 size r e rs d (λ z. omega arith) (λ z k. omega arith)

    rows_written : (b : Bool) → leb (rewrite.need rs) (length w) ≡ b
        → r ≡ reply_of (cond b (cond (leb size (length o)) (Ok size) (Err (refused_with 9 0 size))) (Err (refused_with 9 1 (rewrite.need rs))))
        → o' ≡ cond b (cond (leb size (length o)) (written s rs ++ drop size o) o) o → w' ≡ cond b (cleared (rewrite.need rs) w) w → Writes s o w r o' w'
    unfolding reply_of
    rows_written true l e f g = record { answer = inr (output e f); work = zeros (used (leb size (length o)) e) rs d g }
    rows_written false l e f g =
        record {
          answer = inl (record { rows = rs; defined = d; reply = e; over = leb-false (rewrite.need rs) (length w) l; kept = f });
          work = left (inr (inr (number_is s 9 1 (rewrite.need rs) r e, place_is s 9 1 (rewrite.need rs) r e))) g;
        }

  pub write_answers : WritePromise s o w r o' w' → Writes s o w r o' w'
  unfolding rewrite.answered rewrite.output_left rewrite.work_left reply_of
  write_answers P = go (plain s) refl P.reply P.output P.work
    where
      go : (x : Reading) → plain s ≡ x → r ≡ reply_of (rewrite.answered s (length o) (length w) x) → o' ≡ rewrite.output_left s (length w) o x → w' ≡ rewrite.work_left w x
          → Writes s o w r o' w'
      go (accepted rs) d e f g = rows_written rs d (leb (rewrite.need rs) (length w)) refl e f g
      go (denied n p) d e f g = record { answer = inr (refuses n p e d (plain_refusal n p d) f); work = left (denied_early s n p 0 r e d) g }
