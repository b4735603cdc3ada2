-- An expression's only hard miss is refusal 3, and a literal has none.
use Rattle.text.specs.declared.stop.Cause.{Cause}
use Rattle.decimal.specs.Faults.{Value}
use Prim.Native.Nat.{ℕ, zero, suc, ◌+◌}
use mathlib.Core.Path.{◌≡◌, refl, subst}
use mathlib.Core.Bool.{Bool, true, false, cond}
use mathlib.Core.List.{List}
use lib.Dec.{eqb}
use lib.ListN.{get_or, length}
use Rattle.decimal.specs.declared.Form.{Form}
use Rattle.decimal.specs.declared.Form.TheVariants.{Rounding}
use Rattle.text.specs.Run.{blanks}
use Rattle.text.specs.Answer.{Ans, To, Miss, Hard, ◌then◌, ◌else◌}
use Rattle.text.specs.Refusals.{too_deep}
use Rattle.amount.specs.Literal.{is_number, literal_as, unsigned, literal}
use Rattle.amount.specs.Expression.{Arithmetic, combined, expression_in, is_plus, is_times, goes_on, chain, atom, products, sums, negation, in_group, closed, group, groups, within, expression}

-- the causes of an answer's refusals are such
abbrev Only : (Cause → Type 0) → Ans Value → Type 0
Only P (To e v) = Unit {0}
Only P Miss = Unit {0}
Only P (Hard k p) = P k

abbrev pub Three : Ans Value → Type 0
Three = Only (λ k. k ≡ too_deep)

cond_only : (P : Cause → Type 0) (b : Bool) (x y : Ans Value) → Only P x → Only P y → Only P (cond b x y)
cond_only P true x y p q = p
cond_only P false x y p q = q

abbrev cond_three : (b : Bool) (x y : Ans Value) → Three x → Three y → Three (cond b x y)
cond_three = cond_only (λ k. k ≡ too_deep)

else_three : (a b : Ans Value) → Three a → Three b → Three (a else b)
unfolding ◌else◌
else_three (To e v) b p q = tt
else_three Miss b p q = q
else_three (Hard k i) b p q = p

then_three : (a : Ans Value) (f : ℕ → Value → Ans Value) → Three a → ((e : ℕ) (v : Value) → Three (f e v)) → Three (a then f)
unfolding ◌then◌
then_three (To e v) f p q = q e v
then_three Miss f p q = tt
then_three (Hard k i) f p q = p

module _ (s : List ℕ) where
  -- a literal is refused by none
  unsigned_only : (P : Cause → Type 0) (m : Bool) (b : ℕ) → Only P (unsigned m s b)
  unfolding unsigned literal_as
  unsigned_only P m b = cond_only P (is_number _) (To _ _) Miss tt tt

  literal_only : (P : Cause → Type 0) (at : ℕ) → Only P (literal s at)
  unfolding literal
  literal_only P at = cond_only P (eqb (get_or s at 0) 45) (unsigned true s (at + 1)) (unsigned false s at) (unsigned_only P true (at + 1)) (unsigned_only P false at)

  pub literal_soft : (at : ℕ) (k : Cause) (p : ℕ) → literal s at ≡ Hard k p → ⊥
  literal_soft at k p e = subst (Only (λ _. ⊥)) e (literal_only (λ _. ⊥) at)

  module _ (calc : Arithmetic) (op : ℕ → Bool) (x : ℕ → Ans Value) (X : (i : ℕ) → Three (x i)) where
    goes_three : (k : ℕ) (v : Value) (e : ℕ) → Three (goes_on calc op x s k v e)
    unfolding goes_on
    goes_three zero v e = tt
    goes_three (suc k) v e =
        let i = blanks s e in
        cond_three (op (get_or s i 0)) _ (To e v)
        (else_three (x (blanks s (i + 1)) then λ f w. goes_on calc op x s k (calc (get_or s i 0) v w) f) (To e v)
        (then_three (x (blanks s (i + 1))) _ (X (blanks s (i + 1))) (λ f w. goes_three k (calc (get_or s i 0) v w) f)) tt)
        tt

    chain_three : (at : ℕ) → Three (chain calc op x s at)
    unfolding chain
    chain_three at = then_three (x at) _ (X at) (λ e v. goes_three (length s) v e)

  module _ (calc : Arithmetic) (g : ℕ → Ans Value) (G : (i : ℕ) → Three (g i)) where
    atom_three : (at : ℕ) → Three (atom g s at)
    unfolding atom
    atom_three at = else_three (literal s at) (g at) (literal_only (λ k. k ≡ too_deep) at) (G at)

    products_three : (at : ℕ) → Three (products calc g s at)
    unfolding products
    products_three = chain_three calc is_times (atom g s) atom_three

    sums_three : (at : ℕ) → Three (sums calc g s at)
    unfolding sums
    sums_three = chain_three calc is_plus (products calc g s) products_three

    negation_three : (at : ℕ) → Three (negation g s at)
    unfolding negation
    negation_three at = cond_three (eqb (get_or s at 0) 45) _ Miss (then_three (g (blanks s (at + 1))) _ (G (blanks s (at + 1))) (λ e v. tt)) tt

    in_group_three : (at : ℕ) → Three (in_group calc g s at)
    unfolding in_group
    in_group_three at = else_three (negation g s at) (sums calc g s at) (negation_three at) (sums_three at)

  group_three : (calc : Arithmetic) (n at : ℕ) → Three (group calc n s at)
  unfolding group closed
  group_three calc zero at = cond_three (eqb (get_or s at 0) 40) (Hard too_deep at) Miss refl tt
  group_three calc (suc n) at =
      cond_three (eqb (get_or s at 0) 40) _ Miss
      (then_three (in_group calc (group calc n s) s (blanks s (at + 1))) (closed s) (in_group_three calc (group calc n s) (group_three calc n) (blanks s (at + 1)))
      (λ e v. cond_three (eqb (get_or s (blanks s e) 0) 41) (To (blanks s e + 1) v) Miss tt tt))
      tt

  pub within_three : (calc : Arithmetic) (n at : ℕ) → Three (within calc n s at)
  unfolding within
  within_three calc n = in_group_three calc (group calc n s) (group_three calc n)

  pub expression_in_three : (form : Form) (at : ℕ) → Three (expression_in form s at)
  unfolding expression_in
  expression_in_three form = within_three (combined form) groups

  pub expression_three : (at : ℕ) → Three (expression s at)
  unfolding expression
  expression_three = expression_in_three Rounding
