-- How the code follows rule 8. It holds answers r, each known as `answer_of` of the rule's, and by a match which of the
-- three r is.
use Rattle.text.specs.Refusals.{too_deep}
use Rattle.text.proofs.TestLaws.{ok_pair}
use Rattle.text.specs.declared.stop.Stop.{Stop}
use Rattle.text.specs.steps.Told.{Reading}
use Rattle.std.specs.Prelude.{Err, Ok}
use Rattle.text.specs.declared.stop.Cause.{Cause}
use Rattle.decimal.specs.Faults.{Value}
use Prim.Native.Nat.{ℕ, zero, suc, ◌+◌, ◌-◌, ◌^◌, ◌≤◌, ◌<◌}
use mathlib.Core.Path.{◌≡◌, refl, sym, ap, ◌∙◌}
use mathlib.Core.Bool.{Bool, true, false, cond}
use mathlib.Core.List.{List}
use native.Mathlib.Omega.{arith}
use native.Mathlib.Numerals.{sub-one}
use lib.Dec.{eqb}
use lib.ListN.{get_or, length}
use borrow.Author.Tests.{ne_eqb, eqb-false}
use mir.Syntax.{w64}
use mir.Val.{Fits}
use Rattle.text.specs.Run.{blanks}
use Rattle.text.specs.Answer.{Ans, To, Miss, Hard, ◌then◌, ◌else◌}
use Rattle.text.proofs.Steps.{byte_within, such_within}
use Rattle.amount.specs.Expression.{Arithmetic, negated_value, is_plus, is_times, goes_on, atom, products, negation, in_group, closed, group, within}
use Rattle.amount.specs.steps.Answers.{answer_of, operator_of, operand_of, negated_answer, closed_answer}

-- ---- what the arms of a match tell

pub was_read : (a : Ans Value) (r : Reading Value) (e : ℕ) (v : Value) → r ≡ answer_of a → r ≡ Ok (e, v) → a ≡ To e v
unfolding answer_of
was_read (To f w) r e v p q = let i = ok_pair (sym p ∙ q) in rw (i.0, i.1)
was_read Miss r e v p q = cc
was_read (Hard k i) r e v p q = cc

pub was_miss : (a : Ans Value) (r : Reading Value) → r ≡ answer_of a → r ≡ (Err Stop.Miss) → a ≡ Miss
unfolding answer_of
was_miss (To f w) r p q = cc
was_miss Miss r p q = refl
was_miss (Hard k i) r p q = cc

pub was_hard : (a : Ans Value) (r : Reading Value) (k : Cause) (i : ℕ) → r ≡ answer_of a → r ≡ Err (Stop.Hard k i) → a ≡ Hard k i
unfolding answer_of
was_hard (To f w) r k i p q = cc
was_hard Miss r k i p q = cc
was_hard (Hard n j) r k i p q = cc

-- ---- one reading or another, and one after another

module _ (a : Ans Value) (r : Reading Value) (p : r ≡ answer_of a) where
  pub else_read : (b : Ans Value) (e : ℕ) (v : Value) → r ≡ Ok (e, v) → Ok (e, v) ≡ answer_of (a else b)
  unfolding answer_of ◌else◌
  else_read b e v q = rw (was_read a r e v p q)

  pub else_kept : (b : Ans Value) (x : ℕ × Value) → r ≡ Ok x → r ≡ answer_of (a else b)
  unfolding answer_of ◌else◌
  else_kept b (e, v) q = rw (q, was_read a r e v p q)

  pub else_next : (b : Ans Value) (o : Reading Value) → r ≡ (Err Stop.Miss) → o ≡ answer_of b → o ≡ answer_of (a else b)
  unfolding answer_of ◌else◌
  else_next b o q n = rw (was_miss a r p q) n

  pub else_hard : (b : Ans Value) (k : Cause) (i : ℕ) → r ≡ Err (Stop.Hard k i) → Err (Stop.Hard k i) ≡ answer_of (a else b)
  unfolding answer_of ◌else◌
  else_hard b k i q = rw (was_hard a r k i p q)

  pub then_on : (f : ℕ → Value → Ans Value) (e : ℕ) (v : Value) (o : Reading Value) → r ≡ Ok (e, v) → o ≡ answer_of (f e v) → o ≡ answer_of (a then f)
  unfolding answer_of ◌then◌
  then_on f e v o q n = rw (was_read a r e v p q) n

  pub then_stop : (f : ℕ → Value → Ans Value) (stop : Stop) → r ≡ Err stop → Err stop ≡ answer_of (a then f)
  unfolding answer_of ◌then◌
  then_stop f Stop.Miss q = rw (was_miss a r p q)
  then_stop f (Stop.Hard k i) q = rw (was_hard a r k i p q)

-- ---- operators and operands that go on

-- they never miss
ended : (c : Bool) (a y : Ans Value) (e : ℕ) (v : Value) → (cond c (a else To e v) (To e v) else y) ≡ cond c (a else To e v) (To e v)
unfolding ◌else◌
ended true (To f w) y e v = refl
ended true Miss y e v = refl
ended true (Hard k i) y e v = refl
ended false a y e v = refl

pub goes_else : (calc : Arithmetic) (op : ℕ → Bool) (x : ℕ → Ans Value) (s : List ℕ) (k : ℕ) (v : Value) (e : ℕ) (y : Ans Value) → (goes_on calc op x s k v e else y) ≡ goes_on calc op x s k v e
unfolding goes_on ◌else◌
goes_else calc op x s zero v e y = refl
goes_else calc op x s (suc k) v e y =
    let i = blanks s e in
    ended (op (get_or s i 0)) (x (blanks s (i + 1)) then λ f w. goes_on calc op x s k (calc (get_or s i 0) v w) f) y e v

module _ (calc : Arithmetic) (op : ℕ → Bool) (x : ℕ → Ans Value) (s : List ℕ) (k : ℕ) (v : Value) (e : ℕ) where
  goes_none : k ≤ 0 → goes_on calc op x s k v e ≡ To e v
  unfolding goes_on
  goes_none h = ap (λ n. goes_on calc op x s n v e) {x = k} {y = 0} (omega arith)

  goes_one : 0 < k → goes_on calc op x s k v e ≡ goes_on calc op x s (suc (k - 1)) v e
  goes_one h = ap (λ n. goes_on calc op x s n v e) {x = k} {y = suc (k - 1)} (omega arith)

-- k turns are left, which give o
module _ (calc : Arithmetic) (op : ℕ → Bool) (x : ℕ → Ans Value) (s : List ℕ) (k : ℕ) (v : Value) (e : ℕ) (o : Ans Value) (inv : goes_on calc op x s k v e ≡ o) where
  pub goes_done : k ≤ 0 → Ok (e, v) ≡ answer_of o
  unfolding answer_of
  goes_done h = ap answer_of (sym (goes_none calc op x s k v e h) ∙ inv)

  -- b is the byte after blanks, and t whether it is such an operator
  module _ (h : 0 < k) (i b : ℕ) (t : Bool) (p : i ≡ blanks s e) (q : b ≡ get_or s i 0) (u : t ≡ op b) where
    pub goes_stop : t ≡ false → Ok (e, v) ≡ answer_of o
    unfolding goes_on answer_of
    goes_stop f = ap answer_of (rw (goes_one calc op x s k v e h, ← p, ← q, ← u, f) at inv)

    -- r is the answer of the operand after it
    module _ (f : t ≡ true) (j : ℕ) (r : Reading Value) (l : j ≡ blanks s (i + 1)) (m : r ≡ answer_of (x j)) where
      pub goes_miss : r ≡ (Err Stop.Miss) → Ok (e, v) ≡ answer_of o
      unfolding goes_on answer_of ◌then◌ ◌else◌
      goes_miss n = ap answer_of (rw (goes_one calc op x s k v e h, ← p, ← q, ← u, f, ← l, was_miss (x j) r m n) at inv)

      pub goes_hard : (n : Cause) (d : ℕ) → r ≡ Err (Stop.Hard n d) → Err (Stop.Hard n d) ≡ answer_of o
      unfolding goes_on answer_of ◌then◌ ◌else◌
      goes_hard n d z = ap answer_of (rw (goes_one calc op x s k v e h, ← p, ← q, ← u, f, ← l, was_hard (x j) r n d m z) at inv)

      pub goes_more : (d g : ℕ) (w z : Value) → d ≡ k - 1 → r ≡ Ok (g, w) → z ≡ calc b v w → goes_on calc op x s d z g ≡ o
      unfolding goes_on answer_of ◌then◌
      goes_more d g w z y n c =
          rw (y, c, ← goes_else calc op x s (k - 1) (calc b v w) g (To e v)) (rw (goes_one calc op x s k v e h, ← p, ← q, ← u, f, ← l, was_read (x j) r g w m n) at inv)

-- ---- groups and negations: b is the byte at the place

closed_answer_lem : (s : List ℕ) (a : Ans Value) → closed_answer s (answer_of a) ≡ answer_of (a then closed s)
unfolding closed_answer answer_of ◌then◌
closed_answer_lem s (To e v) = refl
closed_answer_lem s Miss = refl
closed_answer_lem s (Hard k i) = refl

negated_answer_lem : (a : Ans Value) → negated_answer (answer_of a) ≡ answer_of (a then λ e v. To e (negated_value v))
unfolding negated_answer answer_of ◌then◌
negated_answer_lem (To e v) = refl
negated_answer_lem Miss = refl
negated_answer_lem (Hard k i) = refl

module _ (s : List ℕ) (at b : ℕ) (p : b ≡ get_or s at 0) where
  pub group_misses : (calc : Arithmetic) (n : ℕ) → (b ≡ 40 → ⊥) → group calc n s at ≡ Miss
  unfolding group
  group_misses calc zero f = rw (← p, ne_eqb b 40 f)
  group_misses calc (suc n) f = rw (← p, ne_eqb b 40 f)

  pub no_group : (calc : Arithmetic) (n : ℕ) → (b ≡ 40 → ⊥) → (Err Stop.Miss) ≡ answer_of (group calc n s at)
  unfolding answer_of
  no_group calc n f = rw (group_misses calc n f)

  pub deep_group : (calc : Arithmetic) (n : ℕ) → b ≡ 40 → n ≡ 0 → Err (Stop.Hard too_deep at) ≡ answer_of (group calc n s at)
  unfolding group answer_of
  deep_group calc zero f z = rw (← p, f)
  deep_group calc (suc n) f z = absurd (omega arith)

  -- r is the answer of what stands inside
  pub open_group : (calc : Arithmetic) (n i : ℕ) (r o : Reading Value) → b ≡ 40 → (n ≡ 0 → ⊥) → i ≡ blanks s (at + 1) → r ≡ answer_of (within calc (n - 1) s i) → o ≡ closed_answer s r → o ≡ answer_of (group calc n s at)
  unfolding group within
  open_group calc zero i r o f z q u w = absurd (z refl)
  open_group calc (suc n) i r o f z q u w = rw (← p, f, ← q, w, u, sub-one (suc n)) (closed_answer_lem s (in_group calc (group calc n s) s i))

  pub no_negation : (g : ℕ → Ans Value) → (b ≡ 45 → ⊥) → (Err Stop.Miss) ≡ answer_of (negation g s at)
  unfolding negation answer_of
  no_negation g f = rw (← p, ne_eqb b 45 f)

  pub negation_of : (g : ℕ → Ans Value) (i : ℕ) (r o : Reading Value) → b ≡ 45 → i ≡ blanks s (at + 1) → r ≡ answer_of (g i) → o ≡ negated_answer r → o ≡ answer_of (negation g s at)
  unfolding negation
  negation_of g i r o f q u w = rw (← p, f, ← q, w, u) (negated_answer_lem (g i))

-- ---- the answers of `closing` and `negating`, by the arms of their match

module _ (s : List ℕ) (r : Reading Value) where
  module _ (e i b : ℕ) (v : Value) (q : r ≡ Ok (e, v)) (p : i ≡ blanks s e) (u : b ≡ get_or s i 0) where
    pub closing_read : b ≡ 41 → Ok ((i + 1), v) ≡ closed_answer s r
    unfolding closed_answer closed answer_of
    closing_read f = rw (q, ← p, ← u, f)

    pub closing_ends : (b ≡ 41 → ⊥) → (Err Stop.Miss) ≡ closed_answer s r
    unfolding closed_answer closed answer_of
    closing_ends f = rw (q, ← p, ← u, ne_eqb b 41 f)

  pub closing_stop : (stop : Stop) → r ≡ Err stop → Err stop ≡ closed_answer s r
  unfolding closed_answer
  closing_stop stop q = rw q

module _ (r : Reading Value) where
  pub negating_read : (e : ℕ) (v w : Value) → r ≡ Ok (e, v) → w ≡ negated_value v → Ok (e, w) ≡ negated_answer r
  unfolding negated_answer
  negating_read e v w q p = rw (q, p)

  pub negating_stop : (stop : Stop) → r ≡ Err stop → Err stop ≡ negated_answer r
  unfolding negated_answer
  negating_stop stop q = rw q

-- ---- the classes of operators

zero_operates : (times : Bool) → operator_of times 0 ≡ false
unfolding operator_of is_plus is_times
zero_operates true = refl
zero_operates false = refl

module _ (times : Bool) where
  pub times_operand : (calc : Arithmetic) (g : ℕ → Ans Value) (s : List ℕ) (at : ℕ) (o : Reading Value) → times ≡ true → o ≡ answer_of (atom g s at) → o ≡ answer_of (operand_of times calc g s at)
  unfolding operand_of
  times_operand calc g s at o f p = rw f p

  pub plus_operand : (calc : Arithmetic) (g : ℕ → Ans Value) (s : List ℕ) (at : ℕ) (o : Reading Value) → times ≡ false → o ≡ answer_of (products calc g s at) → o ≡ answer_of (operand_of times calc g s at)
  unfolding operand_of
  plus_operand calc g s at o f p = rw f p

-- in the measure of the cycle: a sum stands above its products
unfoldable pub stage : Bool → ℕ
stage true = 0
stage false = 3

pub sum_stage : (times : Bool) → times ≡ false → stage times ≡ 3
unfolding stage
sum_stage times f = rw f

-- ---- the place after a byte that is there

module _ (s : List ℕ) (i b : ℕ) (l : length s < 2 ^ 64) (p : b ≡ get_or s i 0) where
  pub byte_fits : (c : ℕ) → b ≡ c → eqb c 0 ≡ false → Fits w64 (i + 1)
  byte_fits c q z = let n = eqb-false c 0 z in let w = byte_within s i b p (omega arith) in record { fits = omega arith }

  -- t tells whether the byte is an operator
  pub operator_fits : (times t : Bool) → t ≡ operator_of times b → t ≡ true → Fits w64 (i + 1)
  operator_fits times t u f = let w = such_within (operator_of times) s i b (zero_operates times) p (sym u ∙ f) in record { fits = omega arith }

pub ruleset closing_laws = (byte_fits, closing_read, closing_ends, closing_stop)

pub ruleset negating_laws = (negating_read, negating_stop)

pub ruleset form_laws = (byte_fits, else_read, else_kept, else_next, else_hard, then_on, then_stop, no_group, deep_group, open_group, no_negation, negation_of)

pub ruleset operand_laws = (times_operand, plus_operand)

pub ruleset goes_laws = (operator_fits, goes_done, goes_stop, goes_miss, goes_hard, goes_more)
