-- Strict reading's promises, proved.
use Prim.Native.Nat.{ℕ, ◌+◌, ◌≤◌}
use native.Mathlib.Omega.{arith}
use mathlib.Core.Path.{◌≡◌, refl, sym, ◌∙◌, ap, subst}
use mathlib.Core.Bool.{Bool, true, false, cond}
use mathlib.Core.Logic.{◌⊎◌, inl, inr}
use mathlib.Core.List.{List, [], ◌∷◌, ◌++◌}
use borrow.Author.Tests.{eqb-true, ne_eqb, eqb-false}
use lib.Dec.{eqb, leb}
use lib.ListN.{length}
use Rattle.text.specs.Permitted.{size_limit}
use Rattle.row.specs.declared.table.Row.{Row}
use Rattle.ledger.specs.Plain.{Reading, accepted, denied, part, plain}
use Rattle.ledger.specs.Strict.{lost_line, other_flag, objection, first_refused, strictly}
use Rattle.ledger.specs.Strictness.{Passes, Later, Refused, StrictRows, PlainFirst, StrictExactly, InOrder}
use Rattle.ledger.proofs.RowOrder.{Rises}
use Rattle.ledger.proofs.PlainLaws.{part_kept}
use Rattle.ledger.proofs.ReadLaws.{judged_rows}
use Rattle.ledger.proofs.PassLaws.{passes_all, all_pass}

pub strict_rows : StrictRows
strict_rows s rs e = judged_rows s (plain s) rs e

pub plain_first : PlainFirst
unfolding strictly
plain_first s n p e = ap (strictly s) e

-- ---- the first row that is refused

module _ (s : List ℕ) where
  one_refused : (us : List Row) (r : Row) (vs : List Row) (w : Reading) → Passes s us → (objection s r ≡ 0 → ⊥)
      → first_refused s (us ++ (r ∷ vs)) w ≡ denied (objection s r) r.start
  unfolding first_refused
  one_refused [] r vs w h n = rw (ne_eqb (objection s r) 0 n)
  one_refused (u ∷ us) r vs w (h, hs) n = rw h (one_refused us r vs w hs n)

  was_refused : (rs xs : List Row) (n p : ℕ) → first_refused s rs (accepted xs) ≡ denied n p → Refused s rs n p
  unfolding first_refused
  was_refused [] xs n p e = absurd (let z : ◌≡◌ {A = ℕ} 0 1 = cc in omega arith)
  was_refused (r ∷ rs) xs n p e = go (eqb (objection s r) 0) refl e (λ f. was_refused rs xs n p f)
    where
      go : (b : Bool) → eqb (objection s r) 0 ≡ b → cond b (first_refused s rs (accepted xs)) (denied (objection s r) r.start) ≡ denied n p
          → (first_refused s rs (accepted xs) ≡ denied n p → Refused s rs n p) → Refused s (r ∷ rs) n p
      go true q e ih =
          let k = ih e in
          record {
            before = r ∷ k.before;
            row = k.row;
            behind = k.behind;
            split = ap (λ z. r ∷ z) k.split;
            earlier = (eqb-true (objection s r) 0 q, k.earlier);
            number = k.number;
            some = k.some;
            place = k.place;
          }
      go false q e ih =
          let i : objection s r ≡ n = cc in
          record { before = []; row = r; behind = rs; split = refl; earlier = tt; number = i; some = λ z. eqb-false (objection s r) 0 q (i ∙ z); place = cc }

  objection_number : (r : Row) → (objection s r ≡ 0 → ⊥) → (objection s r ≡ 16) ⊎ (objection s r ≡ 17)
  unfolding objection
  objection_number r h = go (eqb r.kind 1) (eqb r.kind 20) (lost_line _) (other_flag _) h
    where
      go : (a b c d : Bool) → (◌≡◌ {A = ℕ} (cond a (cond c 16 0) (cond b (cond d 17 0) 0)) 0 → ⊥)
          → (◌≡◌ {A = ℕ} (cond a (cond c 16 0) (cond b (cond d 17 0) 0)) 16) ⊎ (◌≡◌ {A = ℕ} (cond a (cond c 16 0) (cond b (cond d 17 0) 0)) 17)
      go true b true d h = inl refl
      go true b false d h = absurd (h refl)
      go false true c true h = inr refl
      go false true c false h = absurd (h refl)
      go false false c d h = absurd (h refl)

pub strict_exactly : StrictExactly
unfolding strictly
strict_exactly s rs e =
    record {
      accepts = λ h. ap (strictly s) e ∙ passes_all s rs (accepted rs) h;
      accepted_passes = λ q. all_pass s rs (accepted rs) rs (sym (ap (strictly s) e) ∙ q);
      refuses = λ n p k. ap (strictly s) e ∙ told n p k;
      refused = λ n p q. was_refused s rs rs n p (sym (ap (strictly s) e) ∙ q);
      numbers = λ n p q. let k = was_refused s rs rs n p (sym (ap (strictly s) e) ∙ q) in subst (λ z. (z ≡ 16) ⊎ (z ≡ 17)) k.number (objection_number s k.row (λ z. k.some (sym k.number ∙ z)));
    }
  where
    told : (n p : ℕ) → Refused s rs n p → first_refused s rs (accepted rs) ≡ denied n p
    told n p k =
        ap (λ z. first_refused s z (accepted rs)) k.split
        ∙ one_refused s k.before k.row k.behind (accepted rs) k.earlier (λ z. k.some (sym k.number ∙ z))
        ∙ ap (λ z. denied z k.row.start) k.number
        ∙ ap (denied n) k.place

-- ---- rows stand in order of start

pub plain_part : (s : List ℕ) (rs : List Row) → plain s ≡ accepted rs → part s ≡ accepted rs
unfolding plain
plain_part s rs e = go (leb (length s) size_limit) e
  where
    go : (b : Bool) → cond b (part s) (denied 1 0) ≡ accepted rs → part s ≡ accepted rs
    go true e = e
    go false e = absurd (let z : ◌≡◌ {A = ℕ} 0 1 = cc in omega arith)

later : (p k j : ℕ) (rs : List Row) → p ≤ k → Rises k j rs → Later p rs
later p k j [] h r = tt
later p k j (x ∷ rs) h r = (omega (arith, r.0), later p x.start j rs (omega (arith, r.0)) r.1)

behind : (k j : ℕ) (us : List Row) (r : Row) (vs : List Row) → Rises k j (us ++ (r ∷ vs)) → Later r.start vs
behind k j [] r vs h = later r.start r.start j vs (omega arith) h.1
behind k j (u ∷ us) r vs h = behind u.start j us r vs h.1

pub in_order : InOrder
in_order s us r vs e = behind 0 (0 + length s) us r vs (part_kept s (us ++ (r ∷ vs)) (plain_part s (us ++ (r ∷ vs)) e)).order
