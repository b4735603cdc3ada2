-- What the engine's steps mean by rule 8. The arithmetic calc is any: no law looks into it.
use Rattle.decimal.specs.Faults.{Value}
use Prim.Native.Nat.{ℕ, suc, ◌+◌}
use mathlib.Core.Path.{◌≡◌, refl, sym, ap, subst, ◌∙◌}
use mathlib.Core.Bool.{Bool, true, false, cond}
use mathlib.Core.List.{List}
use native.Mathlib.Omega.{arith}
use lib.Dec.{eqb}
use lib.ListN.{get_or, length}
use borrow.Author.Tests.{ne_eqb, eqb-true, eqb-false}
use Rattle.text.specs.Run.{blanks}
use Rattle.text.specs.Answer.{Ans, To, Miss, Hard, ◌then◌, ◌else◌}
use Rattle.amount.specs.Literal.{literal}
use Rattle.amount.specs.Expression.{Arithmetic, negated_value, is_plus, is_times, goes_on, chain, atom, products, sums, negation, in_group, closed, group, within}
use Rattle.text.proofs.Joins.{Reach}
use Rattle.text.proofs.TestLaws.{differ}
use Rattle.amount.proofs.Forms.{goes_else, group_misses}
use Rattle.amount.proofs.ExpressionEnds.{goes_off, goes_turns, atom_reach, products_reach, group_reach}
use Rattle.amount.proofs.LoneLiteral.{negation_misses}
use Rattle.amount.proofs.Refusals.{literal_soft}
use Rattle.engine.specs.declared.Pending.{Pending}
use Rattle.engine.specs.declared.Pending.TheVariants.{Nothing, With}
use Rattle.engine.specs.declared.Frame.{Frame}
use Rattle.engine.specs.declared.Next.{Next}
use Rattle.engine.specs.declared.Next.TheVariants.{Done}
use Rattle.engine.specs.steps.Turns.{first_frame, joined, falls_to, fallback, total_of, waiting_of, after_of, step_of, settle_of, open_of, begin_of, taken, start_of, operand_of, shut_of}
use Rattle.engine.proofs.Invariant.{onward, enter, meaning}

-- ---- answers that do not miss

abbrev Stands : Ans Value → Type 0
Stands (To e v) = Unit {0}
Stands Miss = ⊥
Stands (Hard k p) = Unit {0}

stood : (a y : Ans Value) → Stands a → (a else y) ≡ a
unfolding ◌else◌
stood (To e v) y t = refl
stood Miss y t = absurd t
stood (Hard k p) y t = refl

else_stands : (a : Ans Value) (e : ℕ) (v : Value) → Stands (a else To e v)
unfolding ◌else◌
else_stands (To f w) e v = tt
else_stands Miss e v = tt
else_stands (Hard k p) e v = tt

then_stands : (a : Ans Value) (f : ℕ → Value → Ans Value) → Stands a → ((e : ℕ) (v : Value) → Stands (f e v)) → Stands (a then f)
unfolding ◌then◌
then_stands (To e v) f p q = q e v
then_stands Miss f p q = absurd p
then_stands (Hard k i) f p q = tt

goes_stands : (calc : Arithmetic) (op : ℕ → Bool) (x : ℕ → Ans Value) (s : List ℕ) (k : ℕ) (v : Value) (e : ℕ) → Stands (goes_on calc op x s k v e)
goes_stands calc op x s k v e = subst Stands (goes_else calc op x s k v e (To e v)) (else_stands (goes_on calc op x s k v e) e v)

else_miss : (a : Ans Value) → (a else Miss) ≡ a
unfolding ◌else◌
else_miss (To e v) = refl
else_miss Miss = refl
else_miss (Hard k p) = refl

-- no operator is of both classes
plus_not_times : (b : ℕ) → is_times b ≡ true → is_plus b ≡ false
unfolding is_times is_plus
plus_not_times b e = rw (ne_eqb b 43 (differ is_times b 43 e refl), ne_eqb b 45 (differ is_times b 45 e refl))

module _ (calc : Arithmetic) (s : List ℕ) where
  abbrev N : ℕ
  N = length s

  -- ---- one turn of a chain, with as many turns left after it

  module _ (op : ℕ → Bool) (x : ℕ → Ans Value) (X : (i : ℕ) → Reach N (i + 1) (x i)) (none : op 0 ≡ false) where
    goes_step : (v : Value) (e b j : ℕ) → b ≡ get_or s (blanks s e) 0 → j ≡ blanks s (blanks s e + 1) → op b ≡ true → goes_on calc op x s N v e ≡ ((x j then λ f w. goes_on calc op x s N (calc b v w) f) else To e v)
    unfolding goes_on
    goes_step v e b j p q t = goes_turns s calc op x X none N (suc N) v e (omega arith) (omega arith) ∙ rw (← p, ← q, t)

  module _ (n : ℕ) where
    abbrev g : ℕ → Ans Value
    g = group calc n s

    onward_stands : (sum : Pending) (w : Value) (e : ℕ) → Stands (onward calc g s sum w e)
    unfolding onward
    onward_stands sum w e = then_stands _ _ (goes_stands calc is_times (atom g s) s N w e) (λ f v. goes_stands calc is_plus (products calc g s) s N (joined calc sum v) f)

    -- a product w goes on by `*` or `/`, and a is the operand's answer
    times_on : (sum : Pending) (w : Value) (e b : ℕ) (a : Ans Value) → b ≡ get_or s (blanks s e) 0 → is_times b ≡ true
        → (((a then λ f u. goes_on calc is_times (atom g s) s N (calc b w u) f) else To e w) then λ f v. goes_on calc is_plus (products calc g s) s N (joined calc sum v) f)
        ≡ enter calc g s (waiting_of sum (With b w) e) a
    unfolding enter onward joined fallback falls_to ◌then◌ ◌else◌
    times_on sum w e b (To f u) p t =
        rw (stood (goes_on calc is_times (atom g s) s N (calc b w u) f) (To e w) (goes_stands calc is_times (atom g s) s N (calc b w u) f))
        (sym (stood _ _ (onward_stands sum (calc b w u) f)))
    times_on sum w e b Miss p t = goes_off s calc is_plus (products calc g s) N (joined calc sum w) e (rw (← p) (plus_not_times b t))
    times_on sum w e b (Hard k i) p t = refl

    by_times : (sum : Pending) (w : Value) (e b j : ℕ) → b ≡ get_or s (blanks s e) 0 → j ≡ blanks s (blanks s e + 1) → is_times b ≡ true → onward calc g s sum w e ≡ enter calc g s (waiting_of sum (With b w) e) (atom g s j)
    unfolding onward is_times
    by_times sum w e b j p q t =
        rw (goes_step is_times (atom g s) (atom_reach s calc g (group_reach s calc n)) refl w e b j p q t) (times_on sum w e b (atom g s j) p t)

    -- a sum u goes on by `+` or `-`
    plus_on : (u : Value) (e b : ℕ) (a : Ans Value)
        → (((a then λ f w. goes_on calc is_times (atom g s) s N w f) then λ f v. goes_on calc is_plus (products calc g s) s N (calc b u v) f) else To e u)
        ≡ enter calc g s (waiting_of (With b u) Nothing e) a
    unfolding enter onward joined fallback falls_to ◌then◌ ◌else◌
    plus_on u e b (To f w) = refl
    plus_on u e b Miss = refl
    plus_on u e b (Hard k i) = refl

    products_are : (at : ℕ) → products calc g s at ≡ (atom g s at then λ e v. goes_on calc is_times (atom g s) s N v e)
    unfolding products chain
    products_are at = refl

    by_plus : (sum : Pending) (w : Value) (e b j : ℕ) → b ≡ get_or s (blanks s e) 0 → j ≡ blanks s (blanks s e + 1) → is_times b ≡ false → is_plus b ≡ true → onward calc g s sum w e ≡ enter calc g s (waiting_of (With b (joined calc sum w)) Nothing e) (atom g s j)
    unfolding onward is_plus ◌then◌
    by_plus sum w e b j p q t r =
        rw (goes_off s calc is_times (atom g s) N w e (rw (← p) t))
        (goes_step is_plus (products calc g s) (products_reach s calc g (group_reach s calc n)) refl (joined calc sum w) e b j p q r
        ∙ ap (λ a. (a then λ f v. goes_on calc is_plus (products calc g s) s N (calc b (joined calc sum w) v) f) else To e (joined calc sum w)) (products_are j)
        ∙ plus_on (joined calc sum w) e b (atom g s j))

    by_none : (sum : Pending) (w : Value) (e b : ℕ) → b ≡ get_or s (blanks s e) 0 → is_times b ≡ false → is_plus b ≡ false → onward calc g s sum w e ≡ To e (joined calc sum w)
    unfolding onward ◌then◌
    by_none sum w e b p t r = rw (goes_off s calc is_times (atom g s) N w e (rw (← p) t)) (goes_off s calc is_plus (products calc g s) N (joined calc sum w) e (rw (← p) r))

    step_means : (f : Frame) (e : ℕ) (v w : Value) (t r : Bool) → w ≡ joined calc f.product v → is_times (get_or s (blanks s e) 0) ≡ t → is_plus (get_or s (blanks s e) 0) ≡ r → meaning calc s n (step_of calc s f e v) ≡ onward calc g s f.sum w e
    unfolding meaning step_of after_of total_of
    step_means f e v w true r q h l = rw (h, ← q) (sym (by_times f.sum w e _ _ refl refl h))
    step_means f e v w false true q h l = rw (h, l, ← q) (sym (by_plus f.sum w e _ _ refl refl h l))
    step_means f e v w false false q h l = rw (h, l, ← q) (sym (by_none f.sum w e _ refl h l))

    -- a negation ends there, and anything else goes on
    by_sign : (m : Bool) (x : Next) (e : ℕ) (v : Value) (a d : Ans Value) → meaning calc s n x ≡ (a else d) → meaning calc s n (cond m (Done e (negated_value v)) x) ≡ (cond m (To e (negated_value v)) a else d)
    unfolding meaning ◌else◌
    by_sign true x e v a d p = refl
    by_sign false x e v a d p = p

    settle_means : (f : Frame) (e : ℕ) (v : Value) → meaning calc s n (settle_of calc s f e v) ≡ enter calc g s f (To e v)
    unfolding settle_of enter ◌then◌
    settle_means f e v =
        let w = joined calc f.product v in
        by_sign f.negated (step_of calc s f e v) e v (onward calc g s f.sum w e) (fallback calc f)
        (step_means f e v w (is_times _) (is_plus _) refl refl refl ∙ sym (stood _ _ (onward_stands f.sum w e)))

    pub missed : (f : Frame) (a : Ans Value) → a ≡ Miss → enter calc g s f a ≡ fallback calc f
    unfolding enter ◌then◌ ◌else◌
    missed f a e = rw e

    -- a group is looked for
    open_means : (f : Frame) (at : ℕ) (b : Bool) → eqb (get_or s at 0) 40 ≡ b → meaning calc s n (open_of s f at) ≡ enter calc g s f (g at)
    unfolding open_of meaning
    open_means f at true h = rw h
    open_means f at false h = rw h (sym (missed f (g at) (group_misses s at (get_or s at 0) refl calc n (eqb-false _ 40 h))))

    atom_is : (at : ℕ) (a : Ans Value) → literal s at ≡ a → atom g s at ≡ (a else g at)
    unfolding atom
    atom_is at a h = rw h

    pub operand_means : (f : Frame) (at : ℕ) (a : Ans Value) → literal s at ≡ a → meaning calc s n (operand_of calc s f at) ≡ enter calc g s f (atom g s at)
    unfolding operand_of taken atom ◌else◌
    operand_means f at (To e v) h = rw h (settle_means f e v)
    operand_means f at Miss h = rw h (open_means f at _ refl)
    operand_means f at (Hard k p) h = absurd (literal_soft s at k p h)

    pub shut_means : (f : Frame) (e : ℕ) (v : Value) (b : Bool) → eqb (get_or s (blanks s e) 0) 41 ≡ b → meaning calc s n (shut_of calc s f e v) ≡ enter calc g s f (closed s e v)
    unfolding shut_of closed meaning
    shut_means f e v true h = rw h (settle_means f (blanks s e + 1) v)
    shut_means f e v false h = rw h (sym (missed f Miss refl))

    -- ---- the start of an expression

    -- its first operand answers a
    first_on : (a : Ans Value) → ((a then λ e v. goes_on calc is_times (atom g s) s N v e) then λ e v. goes_on calc is_plus (products calc g s) s N v e) ≡ enter calc g s (first_frame false) a
    unfolding enter onward joined fallback falls_to ◌then◌ ◌else◌
    first_on (To e v) = sym (stood _ _ (onward_stands Nothing v e))
    first_on Miss = refl
    first_on (Hard k p) = refl

    negated_on : (a : Ans Value) → (a then λ e v. To e (negated_value v)) ≡ enter calc g s (first_frame true) a
    unfolding enter fallback falls_to ◌then◌ ◌else◌
    negated_on (To e v) = refl
    negated_on Miss = refl
    negated_on (Hard k p) = refl

    sums_are : (at : ℕ) → sums calc g s at ≡ enter calc g s (first_frame false) (atom g s at)
    unfolding sums products chain
    sums_are at = first_on (atom g s at)

    no_sum : (at : ℕ) → literal s at ≡ Miss → (get_or s at 0 ≡ 40 → ⊥) → sums calc g s at ≡ Miss
    unfolding atom ◌else◌ fallback falls_to
    no_sum at l h = sums_are at ∙ missed (first_frame false) (atom g s at) (rw l (group_misses s at (get_or s at 0) refl calc n h))

    begin_means : (at : ℕ) (b : Bool) → eqb (get_or s at 0) 45 ≡ b → literal s at ≡ Miss → meaning calc s n (begin_of s at) ≡ within calc n s at
    unfolding begin_of within in_group negation ◌else◌
    begin_means at true h l =
        rw (h, no_sum at l (λ e. omega (arith, eqb-true (get_or s at 0) 45 h)), else_miss)
        (open_means (first_frame true) (blanks s (at + 1)) _ refl ∙ sym (negated_on (g (blanks s (at + 1)))))
    begin_means at false h l =
        rw h (open_means (first_frame false) at _ refl ∙ sym (sums_are at ∙ ap (enter calc g s (first_frame false)) (atom_is at Miss l)))

    pub start_means : (at : ℕ) (a : Ans Value) → literal s at ≡ a → meaning calc s n (start_of calc s at) ≡ within calc n s at
    unfolding start_of taken within in_group ◌else◌
    start_means at (To e v) h =
        rw (h, negation_misses s calc n at e v h (eqb (get_or s at 0) 45) refl)
        (settle_means (first_frame false) e v ∙ sym (sums_are at ∙ ap (enter calc g s (first_frame false)) (atom_is at (To e v) h)))
    start_means at Miss h = rw h (begin_means at _ refl h)
    start_means at (Hard k p) h = absurd (literal_soft s at k p h)
