-- Where rule 8's forms end: past their start, and within the text, where a group that opens too deep stands too. So as
-- many turns as there are bytes are enough.
use Rattle.decimal.specs.Faults.{Value}
use Prim.Native.Nat.{ℕ, zero, suc, ◌+◌, ◌-◌, ◌≤◌, ◌<◌}
use mathlib.Core.Path.{◌≡◌, refl, sym, ap, subst}
use mathlib.Core.Bool.{Bool, true, false, cond}
use mathlib.Core.List.{List}
use native.Mathlib.Omega.{arith}
use native.Mathlib.Decide.{dec_lt}
use borrow.Author.Tests.{eqb-true}
use lib.Dec.{eqb}
use lib.ListN.{get_or, length, take, drop}
use Rattle.decimal.specs.declared.Form.{Form}
use Rattle.decimal.specs.declared.Form.TheVariants.{Rounding}
use Rattle.text.specs.Bytes.{is_blank, is_space, between}
use Rattle.text.specs.Run.{run_to, blanks}
use Rattle.text.specs.Answer.{Ans, To, Miss, Hard, ◌then◌, ◌else◌}
use Rattle.text.proofs.Steps.{byte_within, get_d_past, run_ends, run_from_lem, run_within, run_first}
use Rattle.text.proofs.Joins.{deep, Reach, to_reach, miss_reach, hard_reach, reach_from, cond_reach, then_reach, else_reach}
use Rattle.amount.specs.Literal.{in_literal, count, is_number, literal_as, unsigned, literal}
use Rattle.text.specs.Refusals.{too_deep}
use Rattle.amount.specs.Expression.{Arithmetic, combined, expression_in, negated_value, is_plus, is_times, goes_on, chain, atom, products, sums, negation, in_group, closed, group, groups, within, expression}

-- ---- runs from any place

run_up : (p : ℕ → Bool) (s : List ℕ) (i : ℕ) → i ≤ run_to p s i
run_up p s i = run_from_lem p s i (run_to p s i) refl

-- a run that takes a byte ends within the text
run_inside : (p : ℕ → Bool) (s : List ℕ) (i : ℕ) → i < run_to p s i → run_to p s i ≤ length s
run_inside p s i h = let f = run_first p s i (run_to p s i) refl h in run_within p s i (run_to p s i) refl (omega arith)

-- ---- answers

-- an answer that is tested for
if_reach : {A : Type 0} (n i : ℕ) (b : Bool) (x : Ans A) → (b ≡ true → Reach n i x) → Reach n i (cond b x Miss)
if_reach n i b x f = cond_reach (λ a. a) n i b x Miss f (λ _. miss_reach n i)

-- what follows a reading need only be equal where the reading can end
then_equal : {A B : Type 0} (n i : ℕ) (a : Ans A) (g h : ℕ → A → Ans B) → Reach n i a → ((j : ℕ) (x : A) → i ≤ j → j ≤ n → g j x ≡ h j x) → (a then g) ≡ (a then h)
unfolding ◌then◌
then_equal n i (To j x) g h r f = f j x r.ends.0 r.ends.1
then_equal n i Miss g h r f = refl
then_equal n i (Hard k p) g h r f = refl

module _ (s : List ℕ) where
  abbrev N : ℕ
  N = length s

  -- ---- literals

  -- no bytes are no literal
  pub none_between : (m : Bool) (c e : ℕ) → e ≤ c → literal_as m (between s c e) e ≡ Miss
  unfolding literal_as is_number count
  none_between m c e h = ap (λ n. literal_as m (take n (drop c s)) e) {x = e - c} {y = 0} (omega arith)

  as_reach : (m : Bool) (c e : ℕ) → (c < e → e ≤ N) → Reach N (c + 1) (literal_as m (between s c e) e)
  unfolding literal_as
  as_reach m c e f =
      elim (dec_lt c e) [
        | yes l ↦ if_reach N (c + 1) (is_number (between s c e)) (To e _) (λ _. to_reach N (c + 1) e _ (omega arith) (f l))
        | no l ↦ subst (Reach N (c + 1)) (sym (none_between m c e (omega arith))) (miss_reach N (c + 1))
      ]

  unsigned_reach : (m : Bool) (b : ℕ) → Reach N (b + 1) (unsigned m s b)
  unfolding unsigned
  unsigned_reach m b =
      let c = run_to is_space s b in
      reach_from N (c + 1) (b + 1) _ (omega (arith, run_up is_space s b)) (as_reach m c (run_to in_literal s c) (run_inside in_literal s c))

  pub literal_reach : (at : ℕ) → Reach N (at + 1) (literal s at)
  unfolding literal
  literal_reach at =
      cond_reach (λ a. a) N (at + 1) (eqb (get_or s at 0) 45) (unsigned true s (at + 1)) (unsigned false s at)
      (λ _. reach_from N (at + 1 + 1) (at + 1) (unsigned true s (at + 1)) (omega arith) (unsigned_reach true (at + 1))) (λ _. unsigned_reach false at)

  -- ---- operators and operands

  -- where no operator follows, nothing goes on
  pub goes_off : (calc : Arithmetic) (op : ℕ → Bool) (x : ℕ → Ans Value) (k : ℕ) (v : Value) (e : ℕ) → op (get_or s (blanks s e) 0) ≡ false → goes_on calc op x s k v e ≡ To e v
  unfolding goes_on
  goes_off calc op x zero v e f = refl
  goes_off calc op x (suc k) v e f = rw f

  -- each operand x ends so
  module _ (calc : Arithmetic) (op : ℕ → Bool) (x : ℕ → Ans Value) (X : (i : ℕ) → Reach N (i + 1) (x i)) where
    goes_reach : (k : ℕ) (v : Value) (e i : ℕ) → i ≤ e → e ≤ N → Reach N i (goes_on calc op x s k v e)
    unfolding goes_on
    goes_reach zero v e i h l = to_reach N i e v h l
    goes_reach (suc k) v e i h l =
        let b = blanks s e in
        let j = blanks s (b + 1) in
        cond_reach (λ a. a) N i (op (get_or s b 0)) ((x j then λ f w. goes_on calc op x s k (calc (get_or s b 0) v w) f) else To e v) (To e v)
        (λ _. else_reach N i (x j then λ f w. goes_on calc op x s k (calc (get_or s b 0) v w) f) (To e v)
        (then_reach N (j + 1) i (x j) _ (X j) (λ f w p q. goes_reach k (calc (get_or s b 0) v w) f i (omega (arith, run_up is_blank s e, run_up is_blank s (b + 1))) q))
        (to_reach N i e v h l))
        (λ _. to_reach N i e v h l)

    chain_reach : (at : ℕ) → Reach N (at + 1) (chain calc op x s at)
    unfolding chain
    chain_reach at = then_reach N (at + 1) (at + 1) (x at) _ (X at) (λ e v p q. goes_reach N v e (at + 1) p q)

    -- any two counts of turns give the same, if both are enough for the bytes that are left
    module _ (none : op 0 ≡ false) where
      goes_end : (k : ℕ) (v : Value) (e : ℕ) → N ≤ e → goes_on calc op x s k v e ≡ To e v
      goes_end k v e h = goes_off calc op x k v e (rw (run_ends is_blank s e h, get_d_past s e h) none)

      pub goes_turns : (d k : ℕ) (v : Value) (e : ℕ) → N ≤ d + e → N ≤ k + e → goes_on calc op x s d v e ≡ goes_on calc op x s k v e
      unfolding goes_on
      goes_turns zero k v e p q = sym (goes_end k v e (omega arith))
      goes_turns (suc d) zero v e p q = goes_end (suc d) v e (omega arith)
      goes_turns (suc d) (suc k) v e p q =
          let b = blanks s e in
          let j = blanks s (b + 1) in
          ap (λ a. cond (op (get_or s b 0)) (a else To e v) (To e v))
          (then_equal N (j + 1) (x j) _ _ (X j) (λ f w l m.
          let u = run_up is_blank s e in
          let t = run_up is_blank s (b + 1) in
          goes_turns d k (calc (get_or s b 0) v w) f (omega arith) (omega arith)))

  -- ---- the forms, where the groups g end so

  module _ (calc : Arithmetic) (g : ℕ → Ans Value) (G : (i : ℕ) → Reach N (i + 1) (g i)) where
    pub atom_reach : (at : ℕ) → Reach N (at + 1) (atom g s at)
    unfolding atom
    atom_reach at = else_reach N (at + 1) (literal s at) (g at) (literal_reach at) (G at)

    pub products_reach : (at : ℕ) → Reach N (at + 1) (products calc g s at)
    unfolding products
    products_reach at = chain_reach calc is_times (atom g s) atom_reach at

    pub sums_reach : (at : ℕ) → Reach N (at + 1) (sums calc g s at)
    unfolding sums
    sums_reach at = chain_reach calc is_plus (products calc g s) products_reach at

    pub negation_reach : (at : ℕ) → Reach N (at + 1) (negation g s at)
    unfolding negation
    negation_reach at =
        let i = blanks s (at + 1) in
        if_reach N (at + 1) (eqb (get_or s at 0) 45) (g i then λ e v. To e (negated_value v))
        (λ _. then_reach N (i + 1) (at + 1) (g i) _ (G i) (λ e v p q. to_reach N (at + 1) e _ (omega (arith, run_up is_blank s (at + 1))) q))

    pub in_group_reach : (at : ℕ) → Reach N (at + 1) (in_group calc g s at)
    unfolding in_group
    in_group_reach at = else_reach N (at + 1) (negation g s at) (sums calc g s at) (negation_reach at) (sums_reach at)

  closed_reach : (i e : ℕ) (v : Value) → i ≤ e → Reach N i (closed s e v)
  unfolding closed
  closed_reach i e v h =
      let b = blanks s e in
      if_reach N i (eqb (get_or s b 0) 41) (To (b + 1) v)
      (λ t. let w = byte_within s b 41 (sym (eqb-true _ 41 t)) (omega arith) in to_reach N i (b + 1) v (omega (arith, run_up is_blank s e)) (omega arith))

  pub group_reach : (calc : Arithmetic) (n at : ℕ) → Reach N (at + 1) (group calc n s at)
  unfolding group
  group_reach calc zero at = if_reach N (at + 1) (eqb (get_or s at 0) 40) (Hard too_deep at)
      (λ t. let w = byte_within s at 40 (sym (eqb-true _ 40 t)) (omega arith) in hard_reach N (at + 1) deep at (omega arith))
  group_reach calc (suc n) at =
      let i = blanks s (at + 1) in
      if_reach N (at + 1) (eqb (get_or s at 0) 40) (in_group calc (group calc n s) s i then closed s)
      (λ _. then_reach N (i + 1) (at + 1) (in_group calc (group calc n s) s i) (closed s) (in_group_reach calc (group calc n s) (group_reach calc n) i)
      (λ e v p q. closed_reach (at + 1) e v (omega (arith, run_up is_blank s (at + 1)))))

  pub within_reach : (calc : Arithmetic) (n at : ℕ) → Reach N (at + 1) (within calc n s at)
  unfolding within
  within_reach calc n at = in_group_reach calc (group calc n s) (group_reach calc n) at

  pub expression_in_reach : (form : Form) (at : ℕ) → Reach N (at + 1) (expression_in form s at)
  unfolding expression_in
  expression_in_reach form at = within_reach (combined form) groups at

  pub expression_reach : (at : ℕ) → Reach N (at + 1) (expression s at)
  unfolding expression
  expression_reach at = expression_in_reach Rounding at
