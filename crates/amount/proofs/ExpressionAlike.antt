-- Rule 8 in two texts that share a line.
use Rattle.decimal.specs.Faults.{Value}
use Prim.Native.Nat.{ℕ, zero, suc, ◌+◌, ◌-◌, ◌≤◌}
use native.Mathlib.Omega.{arith}
use mathlib.Core.Path.{◌≡◌, refl}
use mathlib.Core.Bool.{Bool, true, false}
use mathlib.Core.List.{List}
use lib.Dec.{eqb}
use lib.ListN.{length, get_or}
use Rattle.decimal.specs.declared.Form.TheVariants.{Rounding}
use Rattle.text.specs.Bytes.{is_blank, is_space, is_digit, between}
use Rattle.text.specs.Run.{run_to, blanks}
use Rattle.text.specs.Answer.{Ans, To}
use Rattle.text.proofs.Steps.{drop_step, run_from_lem}
use Rattle.text.proofs.Joins.{Reach}
use Rattle.text.proofs.Alike.{Alike, both_to, both_hard, then_alike, else_alike, cond_alike, if_alike, alike_from}
use Rattle.text.proofs.SharedLines.{Shared, byte_same, told, step, run_both, run_alike, blanks_alike}
use Rattle.amount.specs.Literal.{in_literal, is_number, literal_as, unsigned, literal}
use Rattle.text.specs.Refusals.{too_deep}
use Rattle.amount.specs.Expression.{Arithmetic, combined, expression_in, is_plus, is_times, goes_on, chain, atom, products, sums, negation, in_group, closed, group, groups, within, expression}
use Rattle.amount.proofs.ExpressionEnds.{atom_reach, products_reach, group_reach}

module _ {Q : Type 0} {s z : List ℕ} {K P : ℕ → ℕ → Type 0} (L : Shared Q s z K P) where
  -- readers of the two texts, at places that are alike
  abbrev Readers : (ℕ → Ans Value) → (ℕ → Ans Value) → Type 0
  Readers x y = (i j : ℕ) → K i j → Alike Q K (x i) (y j)

  -- ---- literals

  -- what a run goes through
  run_between : (p : ℕ → Bool) → p 10 ≡ false → {i j : ℕ} → K i j → between z j (run_to p z j) ≡ between s i (run_to p s i)
  run_between p f S = (run_both L p f (λ i j c d. (i ≤ c) × (j ≤ d) × (between z j d ≡ between s i c)) none more S).2
    where
      none : (i j : ℕ) → K i j → (i ≤ i) × (j ≤ j) × (between z j j ≡ between s i i)
      none i j S = let a : i - i ≡ 0 = omega arith in let b : j - j ≡ 0 = omega arith in (omega arith, omega arith, rw (a, b))

      more : (i j c d : ℕ) → K i j → (i + 1 ≤ c) × (j + 1 ≤ d) × (between z (j + 1) d ≡ between s (i + 1) c) → (i ≤ c) × (j ≤ d) × (between z j d ≡ between s i c)
      more i j c d S u =
          let l = L.inside i j S in
          let a : c - i ≡ suc (c - (i + 1)) = omega (arith, u.0) in
          let b : d - j ≡ suc (d - (j + 1)) = omega (arith, u.1) in
          (omega (arith, u.0), omega (arith, u.1), rw (a, b, drop_step s i l.0, drop_step z j l.1, byte_same L S, u.2))

  unsigned_alike : (m : Bool) {i j : ℕ} → K i j → Alike Q K (unsigned m s i) (unsigned m z j)
  unfolding unsigned literal_as is_space in_literal is_digit
  unsigned_alike m {i} {j} S =
      let T = run_alike L is_space refl S in
      rw (run_between in_literal refl T)
      (if_alike (is_number (between s (run_to is_space s i) (run_to in_literal s (run_to is_space s i)))) _ _ (λ _. both_to _ _ _ _ (run_alike L in_literal refl T) (λ _. refl)))

  literal_alike : Readers (literal s) (literal z)
  unfolding literal
  literal_alike i j S =
      rw (byte_same L S) (cond_alike (λ a. a) (λ a. a) (eqb (get_or s i 0) 45) (unsigned true s (i + 1)) (unsigned true z (j + 1)) (unsigned false s i) (unsigned false z j)
      (λ e. unsigned_alike true (step L (λ c. eqb c 45) refl S e)) (λ _. unsigned_alike false S))

  -- past one byte that is no line feed, and blanks
  after : (p : ℕ → Bool) → p 10 ≡ false → {i j : ℕ} → K i j → p (get_or s i 0) ≡ true → K (blanks s (i + 1)) (blanks z (j + 1))
  after p f S e = blanks_alike L (step L p f S e)

  -- ---- operators and operands, where the operands x and y are such and take a byte

  module _ (calc : Arithmetic) (op : ℕ → Bool) (n : op 10 ≡ false) (x y : ℕ → Ans Value) (E : Readers x y)
      (X : (i : ℕ) → Reach (length s) (i + 1) (x i)) (Y : (j : ℕ) → Reach (length z) (j + 1) (y j)) where
    -- the turns are enough
    goes_alike : (d e : ℕ) (v w : Value) (i j : ℕ) → K i j → (Q → v ≡ w) → length s ≤ i + d → length z ≤ j + e
        → Alike Q K (goes_on calc op x s d v i) (goes_on calc op y z e w j)
    unfolding goes_on
    goes_alike zero e v w i j S t p q = absurd (omega (arith, L.inside i j S))
    goes_alike (suc d) zero v w i j S t p q = absurd (omega (arith, L.inside i j S))
    goes_alike (suc d) (suc e) v w i j S t p q =
        let a = blanks s i in
        let b = blanks z j in
        let T = blanks_alike L S in
        rw (byte_same L T)
        (cond_alike (λ a. a) (λ a. a) (op (get_or s a 0)) _ _ (To i v) (To j w)
        (λ o. else_alike (then_alike _ _ (alike_from (E _ _ (after op n T o)) (X _) (Y _)) (λ f g u r R l.
        goes_alike d e _ _ f g R.0 (λ k. rw (t k, l k)) (omega (arith, R.1, run_from_lem is_blank s i a refl, run_from_lem is_blank s (a + 1) (blanks s (a + 1)) refl))
        (omega (arith, R.2, run_from_lem is_blank z j b refl, run_from_lem is_blank z (b + 1) (blanks z (b + 1)) refl))))
        (both_to i j v w S t))
        (λ _. both_to i j v w S t))

    chain_alike : Readers (chain calc op x s) (chain calc op y z)
    unfolding chain
    chain_alike i j S = then_alike _ _ (E i j S) (λ e f v w T t. goes_alike (length s) (length z) v w e f T t (omega arith) (omega arith))

  -- ---- the forms, where the groups g and h are such

  module _ (calc : Arithmetic) (g h : ℕ → Ans Value) (E : Readers g h) (G : (i : ℕ) → Reach (length s) (i + 1) (g i)) (H : (j : ℕ) → Reach (length z) (j + 1) (h j)) where
    atom_alike : Readers (atom g s) (atom h z)
    unfolding atom
    atom_alike i j S = else_alike (literal_alike i j S) (E i j S)

    products_alike : Readers (products calc g s) (products calc h z)
    unfolding products is_times
    products_alike = chain_alike calc is_times refl (atom g s) (atom h z) atom_alike (atom_reach s calc g G) (atom_reach z calc h H)

    sums_alike : Readers (sums calc g s) (sums calc h z)
    unfolding sums is_plus
    sums_alike = chain_alike calc is_plus refl (products calc g s) (products calc h z) products_alike (products_reach s calc g G) (products_reach z calc h H)

    negation_alike : Readers (negation g s) (negation h z)
    unfolding negation
    negation_alike i j S =
        rw (byte_same L S) (if_alike (eqb (get_or s i 0) 45) _ _
        (λ e. then_alike _ _ (E _ _ (after (λ c. eqb c 45) refl S e)) (λ a b v w T t. both_to a b _ _ T (λ k. rw (t k)))))

    in_group_alike_lem : Readers (in_group calc g s) (in_group calc h z)
    unfolding in_group
    in_group_alike_lem i j S = else_alike (negation_alike i j S) (sums_alike i j S)

  closed_alike : (i j : ℕ) (v w : Value) → K i j → (Q → v ≡ w) → Alike Q K (closed s i v) (closed z j w)
  unfolding closed
  closed_alike i j v w S t =
      let T = blanks_alike L S in
      rw (byte_same L T) (if_alike (eqb (get_or s (blanks s i) 0) 41) _ _ (λ e. both_to _ _ v w (step L (λ c. eqb c 41) refl T e) t))

  group_alike : (calc : Arithmetic) (n : ℕ) → Readers (group calc n s) (group calc n z)
  unfolding group
  group_alike calc zero i j S = rw (byte_same L S) (if_alike (eqb (get_or s i 0) 40) _ _ (λ _. both_hard too_deep i j (told L S)))
  group_alike calc (suc n) i j S =
      rw (byte_same L S) (if_alike (eqb (get_or s i 0) 40) _ _
      (λ e. then_alike _ _ (in_group_alike_lem calc (group calc n s) (group calc n z) (group_alike calc n) (group_reach s calc n) (group_reach z calc n) _ _ (after (λ c. eqb c 40) refl S e)) closed_alike))

  pub expression_alike : {i j : ℕ} → K i j → Alike Q K (expression s i) (expression z j)
  unfolding expression expression_in within
  expression_alike {i} {j} S =
      let c = combined Rounding in
      in_group_alike_lem c (group c groups s) (group c groups z) (group_alike c groups) (group_reach s c groups) (group_reach z c groups) i j S
