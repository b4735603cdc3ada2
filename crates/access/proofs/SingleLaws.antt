-- The answers of a single expression, each from what the code knows where it gives it.
use Rattle.text.specs.declared.stop.Refused.{Refused}
use Rattle.text.specs.declared.stop.Stop.{Stop}
use Rattle.text.specs.steps.Told.{Reading}
use Rattle.decimal.specs.declared.Fault.{Fault}
use Rattle.std.specs.Prelude.{Err, Ok, Result}
use Rattle.decimal.specs.Faults.{Value, number_of}
use Prim.Native.Nat.{ℕ, ◌≤◌, ◌<◌}
use mathlib.Core.Path.{◌≡◌, refl, sym, ap, ◌∙◌}
use mathlib.Core.Bool.{Bool, true, false, cond}
use mathlib.Core.List.{List}
use borrow.Author.Tests.{lt-ltb, le-ltb, le-leb, lt-leb}
use lib.Dec.{leb, ltb}
use lib.ListN.{length}
use Rattle.decimal.specs.declared.Form.{Form}
use Rattle.decimal.specs.declared.Decimal.{Decimal}
use Rattle.text.specs.Permitted.{clean, size_limit}
use Rattle.text.specs.Answer.{Ans, To, Miss, Hard}
use Rattle.text.specs.Refusals.{refused_with}
use Rattle.amount.specs.Expression.{expression_in}
use Rattle.amount.specs.steps.Answers.{answer_of}
use Rattle.access.specs.Single.{value_answer, read_answer, evaluated}
use Rattle.access.specs.steps.Telling.{judged_of, told_of, answered}

module _ (e : ℕ) (v : Value) where
  pub value_known : (d : Decimal) → v ≡ Ok d → Ok (e, d) ≡ value_answer e v
  unfolding value_answer
  value_known d q = rw q

  pub value_refused : (n : Fault) (m : ℕ) (r : Refused) → v ≡ Err n → m ≡ number_of n → r ≡ refused_with m 0 0 → Err r ≡ value_answer e v
  unfolding value_answer
  value_refused n m r q f l = rw (q, l, f)

module _ (r : Reading Value) where
  pub told_read : (e : ℕ) (v : Value) (o : Result (ℕ × Decimal) Refused) → r ≡ Ok (e, v) → o ≡ value_answer e v → o ≡ told_of r
  unfolding told_of
  told_read e v o q w = rw q w

  pub told_miss : r ≡ (Err Stop.Miss) → Err (refused_with 11 0 0) ≡ told_of r
  unfolding told_of
  told_miss q = rw q

-- the order of refusals 1 and 2
module _ (s : List ℕ) where
  pub too_long_lem : size_limit < length s → Err (refused_with 1 0 0) ≡ judged_of s
  unfolding judged_of
  too_long_lem h = rw (lt-leb (length s) size_limit h)

  module _ (h : length s ≤ size_limit) (c : ℕ) (e : c ≡ clean s) where
    pub not_clean : c < length s → Err (refused_with 2 c 0) ≡ judged_of s
    unfolding judged_of
    not_clean l = rw (← e, le-leb (length s) size_limit h, lt-ltb c (length s) l)

    pub all_clean : length s ≤ c → (Ok tt) ≡ judged_of s
    unfolding judged_of
    all_clean l = rw (← e, le-leb (length s) size_limit h, le-ltb c (length s) l)

told_answer : (a : Ans Value) → told_of (answer_of a) ≡ read_answer a
unfolding told_of answer_of read_answer
told_answer (To e v) = refl
told_answer Miss = refl
told_answer (Hard k i) = refl

by_tests : (short bad : Bool) (c : ℕ) (o : Result (ℕ × Decimal) Refused) → cond short (cond bad (Err (refused_with 2 c 0)) o) (Err (refused_with 1 0 0)) ≡ answered (cond short (cond bad (Err (refused_with 2 c 0)) (Ok tt)) (Err (refused_with 1 0 0))) o
unfolding answered
by_tests true true c o = refl
by_tests true false c o = refl
by_tests false bad c o = refl

judged_first : (form : Form) (s : List ℕ) (o : Result (ℕ × Decimal) Refused) → o ≡ read_answer (expression_in form s 0) → evaluated form s ≡ answered (judged_of s) o
unfolding evaluated judged_of
judged_first form s o w = rw (← w) (by_tests (leb (length s) size_limit) (ltb (clean s) (length s)) (clean s) o)

-- j is what refuses the text, if anything does
module _ (form : Form) (s : List ℕ) (j : Result Unit Refused) (p : j ≡ judged_of s) where
  pub refused_first : (r : Refused) → j ≡ Err r → Err r ≡ evaluated form s
  unfolding answered
  refused_first r q = ap (λ k. answered k (read_answer (expression_in form s 0))) (sym q ∙ p) ∙ sym (judged_first form s (read_answer (expression_in form s 0)) refl)

  -- r is an engine's answer
  pub told_last_lem : (r : Reading Value) (o : Result (ℕ × Decimal) Refused) → j ≡ (Ok tt) → r ≡ answer_of (expression_in form s 0) → o ≡ told_of r → o ≡ evaluated form s
  unfolding answered
  told_last_lem r o q w t =
      ap (λ k. answered k o) (sym q ∙ p)
      ∙ sym (judged_first form s o (t ∙ ap told_of w ∙ told_answer (expression_in form s 0)))

pub ruleset single_laws = (value_known, value_refused, told_read, told_miss, too_long_lem, not_clean, all_clean, refused_first, told_last_lem)
