-- The answers of the functions on values, each from what the code knows where it gives it.
use Rattle.decimal.specs.declared.Fault.{Fault}
use Rattle.std.specs.Prelude.{Err, Ok}
use Rattle.decimal.specs.Faults.{Value}
use Prim.Native.Nat.{ℕ}
use mathlib.Core.Path.{◌≡◌}
use borrow.Author.Tests.{ne_eqb}
use Rattle.decimal.specs.Exact.{negated, sum, difference, product, quotient}
use Rattle.decimal.specs.declared.Form.{Form}
use Rattle.decimal.specs.declared.Decimal.{Decimal}
use Rattle.amount.specs.Expression.{negated_value, operated, combined}

module _ (v r : Value) where
  pub negated_known : (a : Decimal) → v ≡ Ok a → r ≡ negated a → r ≡ negated_value v
  unfolding negated_value
  negated_known a p q = rw p q

  pub negated_refused : (n : Fault) → v ≡ Err n → Err n ≡ negated_value v
  unfolding negated_value
  negated_refused n p = rw p

-- by the operator's byte
module _ (form : Form) (op : ℕ) (a b : Decimal) (r : Value) where
  pub by_plus : op ≡ 43 → r ≡ sum a b → r ≡ operated form op a b
  unfolding operated
  by_plus e q = rw e q

  pub by_minus : op ≡ 45 → r ≡ difference a b → r ≡ operated form op a b
  unfolding operated
  by_minus e q = rw e q

  pub by_times : op ≡ 42 → r ≡ product form a b → r ≡ operated form op a b
  unfolding operated
  by_times e q = rw e q

  pub by_over : (op ≡ 43 → ⊥) → (op ≡ 45 → ⊥) → (op ≡ 42 → ⊥) → r ≡ quotient form a b → r ≡ operated form op a b
  unfolding operated
  by_over d e f q = rw (ne_eqb op 43 d, ne_eqb op 45 e, ne_eqb op 42 f) q

module _ (form : Form) (op : ℕ) (v w : Value) where
  pub both_known : (a b : Decimal) (r : Value) → v ≡ Ok a → w ≡ Ok b → r ≡ operated form op a b → r ≡ combined form op v w
  unfolding combined
  both_known a b r p q u = rw (p, q) u

  pub right_refused : (a : Decimal) (n : Fault) → v ≡ Ok a → w ≡ Err n → Err n ≡ combined form op v w
  unfolding combined
  right_refused a n p q = rw (p, q)

  pub left_refused : (n : Fault) → v ≡ Err n → Err n ≡ combined form op v w
  unfolding combined
  left_refused n p = rw p

pub ruleset negated_laws = (negated_known, negated_refused)

pub ruleset operated_laws = (by_plus, by_minus, by_times, by_over)

pub ruleset combined_laws = (both_known, right_refused, left_refused)
