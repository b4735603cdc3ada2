-- Bytes put at a place.
use Prim.Native.Nat.{ℕ, zero, suc, ◌+◌, ◌-◌, ◌*◌, ◌^◌, ◌≤◌, ◌<◌, min}
use native.Mathlib.Omega.{arith}
use mathlib.Core.Path.{◌≡◌, refl, sym, ◌∙◌, ap, subst}
use mathlib.Core.List.{List, [], ◌∷◌, ◌++◌}
use mathlib.Core.Logic.{⊎_elim}
use lib.ListN.{length, set, take, drop, length-set, length-append, length-drop, drop_of_length-le}
use lib.Seq.{take_all, sets, length-sets}
use Rattle.decimal.specs.Exact.{largest}
use Rattle.text.specs.Bytes.{between}
use Rattle.row.proofs.PourLaws.{le_or_lt}
use Rattle.row.proofs.FieldLaws.{sets_append}
use Rattle.rewrite.specs.steps.Putting.{Put}

-- ---- one after the other

pub put_none : (t : List ℕ) (at : ℕ) → Put t at [] t at
put_none t at = record { bytes = λ _ _. refl; next = λ h. omega arith; same = refl }

pub join : {t : List ℕ} {at : ℕ} {xs u : List ℕ} {r : ℕ} {ys v : List ℕ} {q : ℕ} → Put t at xs u r → Put u r ys v q → Put t at (xs ++ ys) v q
join {t} {at} {xs} {u} {r} {ys} {v} {q} p k =
    record {
      bytes = λ (h : at + length (xs ++ ys) ≤ length t) (m : length t ≤ largest).
          let l = length-append xs ys in
          let n = p.next (omega arith) in
          let e : r ≡ at + length xs = omega arith in
          let s = p.same in
          k.bytes (omega arith) (omega arith) ∙ rw (p.bytes (omega arith) m, e) (sym (sets_append xs ys t at));
      next = λ (a : at ≤ largest). let n = p.next a in k.next (omega arith) ∙ rw (length-append xs ys) (omega arith);
      same = k.same ∙ p.same;
    }

-- ---- one byte

module _ (t : List ℕ) (at b : ℕ) where
  pub put_in : at < length t → length t * 1 < 2 ^ 63 → Put t at (b ∷ []) (set t at b) (at + 1)
  put_in h l = record { bytes = λ _ _. refl; next = λ a. omega arith; same = length-set t at b }

  pub put_out : (r : ℕ) → length t ≤ at → r ≡ min (at + 1) largest → Put t at (b ∷ []) t r
  put_out r h e = record { bytes = λ k _. absurd (omega arith); next = λ a. e; same = refl }

pub two_put : {t : List ℕ} {at a b r : ℕ} {u v : List ℕ} {q : ℕ} → Put t at (a ∷ []) u r → Put u r (b ∷ []) v q → Put t at (a ∷ b ∷ []) v q
two_put p k = join p k

pub ruleset put_laws = (put_in, put_out, two_put)

-- ---- a text with room for all of it

pub copy_put : (t c u : List ℕ) (at : ℕ) → at ≤ length t → length c ≤ length t - at → length t * 1 < 2 ^ 63 → u ≡ sets t at c → Put t at c u (at + length c)
copy_put t c u at h k l e = record { bytes = λ _ _. e; next = λ _. omega arith; same = ap length e ∙ length-sets t at c }

-- no room for it
pub copy_past : (t c : List ℕ) (at r : ℕ) → length t < at → r ≡ min (at + length c) largest → Put t at c t r
copy_past t c at r h e = record { bytes = λ k _. absurd (omega arith); next = λ _. e; same = refl }

pub copy_long : (t c : List ℕ) (at r : ℕ) → at ≤ length t → length t - at < length c → r ≡ min (at + length c) largest → Put t at c t r
copy_long t c at r h l e = record { bytes = λ k _. absurd (omega arith); next = λ _. e; same = refl }

pub ruleset copy_laws = (copy_past, copy_long, copy_put)

-- ---- a span

nothing : (n : ℕ) → take {A = ℕ} n [] ≡ []
nothing zero = refl
nothing (suc n) = refl

module _ (s : List ℕ) (a e : ℕ) where
  span_past : length s ≤ a → between s a e ≡ []
  span_past h = rw (drop_of_length-le s h) (nothing (e - a))

  span_empty : e ≤ a → between s a e ≡ []
  span_empty h = ap (λ (n : ℕ). take n (drop a s)) {x = e - a} {y = 0} (omega arith)

  span_none : min e (length s) ≤ a → between s a e ≡ []
  span_none h = ⊎_elim (λ (l : e ≤ length s). span_empty (omega arith)) (λ (l : length s < e). span_past (omega arith)) (le_or_lt e (length s))

  span_cut : between s a e ≡ take (min e (length s) - a) (drop a s)
  span_cut =
      ⊎_elim
      (λ (l : e ≤ length s). ap (λ (n : ℕ). take n (drop a s)) {x = e - a} {y = min e (length s) - a} (omega arith))
      (λ (l : length s < e). take_all (e - a) (drop a s) (rw length-drop (omega arith)) ∙ sym (take_all (min e (length s) - a) (drop a s) (rw length-drop (omega arith))))
      (le_or_lt e (length s))

  pub put_empty : (t : List ℕ) (at : ℕ) → min e (length s) ≤ a → Put t at (between s a e) t at
  put_empty t at h = subst (λ (x : List ℕ). Put t at x t at) (sym (span_none h)) (put_none t at)

  pub put_cut : (t : List ℕ) (at : ℕ) (u : List ℕ) (r : ℕ) → Put t at (take (min e (length s) - a) (drop a s)) u r → Put t at (between s a e) u r
  put_cut t at u r p = subst (λ (x : List ℕ). Put t at x u r) (sym span_cut) p

pub ruleset span_laws = (put_empty, put_cut)
