-- A refusal of one expression: its number is one of the call's list, its place stands within the text.
use Rattle.decimal.specs.declared.Decimal.{Decimal}
use Rattle.text.specs.declared.stop.Refused.{Refused}
use Rattle.std.specs.Prelude.{Err, Ok, Result}
use Rattle.decimal.specs.Faults.{Value}
use Prim.Native.Nat.{ℕ}
use native.Mathlib.Omega.{arith}
use mathlib.Core.Path.{◌≡◌, refl, ap, subst}
use mathlib.Core.Bool.{Bool, true, false, cond}
use mathlib.Core.Logic.{inl, inr}
use mathlib.Core.List.{List, ◌∷◌}
use borrow.Author.Tests.{ltb-true}
use lib.Dec.{leb, ltb}
use lib.ListN.{length}
use Rattle.decimal.specs.declared.Form.{Form}
use Rattle.text.specs.Permitted.{clean, size_limit}
use Rattle.text.specs.Refusals.{Refusal, cause_number, refused_with}
use Rattle.text.specs.Answer.{Ans, To, Miss, Hard}
use Rattle.text.proofs.Joins.{Reach}
use Rattle.amount.specs.Expression.{expression_in}
use Rattle.amount.proofs.ExpressionEnds.{expression_in_reach}
use Rattle.amount.proofs.ValueSizes.{value_numbers, Small, Smalls, expression_in_small}
use Rattle.access.specs.Single.{value_answer, read_answer, evaluated}

abbrev pub single_numbers : List ℕ
single_numbers = 1 ∷ 2 ∷ 3 ∷ 11 ∷ value_numbers

module _ (s : List ℕ) where
  abbrev Told : Result (ℕ × Decimal) Refused → Type 0
  Told (Ok (e, v)) = Unit {0}
  Told (Err r) = Refusal single_numbers (length s) r.number r.place

  value_told : (e : ℕ) (v : Value) → Small v → Told (value_answer e v)
  unfolding value_answer
  value_told e (Ok d) h = tt
  value_told e (Err n) h = record { listed = inr (inr (inr (inr h.holds))); within = omega arith; front = λ z. refl }

  answer_told : (a : Ans Value) → Smalls a → Reach (length s) 1 a → Told (read_answer a)
  unfolding read_answer
  answer_told (To e v) h r = value_told e v h.holds
  answer_told Miss h r = record { listed = inr (inr (inr (inl refl))); within = omega arith; front = λ z. refl }
  answer_told (Hard k p) h r = record { listed = inr (inr (inl (ap cause_number h.holds))); within = r.ends.0; front = λ z. absurd (omega (arith, ap cause_number h.holds)) }

  pub evaluated_refusal : (form : Form) (r : Refused) → evaluated form s ≡ Err r → Refusal single_numbers (length s) r.number r.place
  unfolding evaluated
  evaluated_refusal form r e = subst Told e (size (leb (length s) size_limit))
    where
      bytes : (b : Bool) → ltb (clean s) (length s) ≡ b → Told (cond b (Err (refused_with 2 (clean s) 0)) (read_answer (expression_in form s 0)))
      bytes true q = record { listed = inr (inl refl); within = omega (arith, ltb-true (clean s) (length s) q); front = λ z. absurd (omega arith) }
      bytes false q = answer_told (expression_in form s 0) (expression_in_small form s 0) (expression_in_reach s form 0)

      size : (b : Bool) → Told (cond b (cond (ltb (clean s) (length s)) (Err (refused_with 2 (clean s) 0)) (read_answer (expression_in form s 0))) (Err (refused_with 1 0 0)))
      size true = bytes (ltb (clean s) (length s)) refl
      size false = record { listed = inl refl; within = omega arith; front = λ z. refl }
