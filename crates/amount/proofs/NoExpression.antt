-- Where a quote stands no expression starts, in any arithmetic.
use Prim.Native.Nat.{ℕ, ◌<◌}
use native.Mathlib.Omega.{arith}
use mathlib.Core.Path.{◌≡◌, refl, sym}
use mathlib.Core.Bool.{false}
use mathlib.Core.List.{List}
use lib.ListN.{length, get_or}
use Rattle.text.specs.Bytes.{is_space, is_digit}
use Rattle.text.specs.Run.{run_to}
use Rattle.text.specs.Answer.{Miss, ◌then◌, ◌else◌}
use Rattle.text.proofs.Steps.{byte_within, run_stops}
use Rattle.decimal.specs.declared.Form.TheVariants.{Rounding}
use Rattle.amount.specs.Literal.{in_literal, literal, unsigned}
use Rattle.amount.specs.Expression.{Arithmetic, combined, expression_in, expression, within, in_group, negation, sums, products, chain, atom, group, groups}
use Rattle.amount.proofs.ExpressionEnds.{none_between}

module _ (s : List ℕ) (at : ℕ) (e : get_or s at 0 ≡ 34) where
  there : at < length s
  there = byte_within s at 34 (sym e) (omega arith)

  no_space : run_to is_space s at ≡ at
  unfolding is_space
  no_space = run_stops is_space s at there (rw e refl)

  no_digits : run_to in_literal s at ≡ at
  unfolding in_literal is_digit
  no_digits = run_stops in_literal s at there (rw e refl)

  no_literal : literal s at ≡ Miss
  unfolding literal unsigned
  no_literal = rw (e, no_space) (none_between s false at (run_to in_literal s at) (omega (arith, no_digits)))

  no_group : (calc : Arithmetic) → group calc groups s at ≡ Miss
  unfolding group
  no_group calc = rw e

  none_within : (calc : Arithmetic) → within calc groups s at ≡ Miss
  unfolding within in_group negation sums products chain atom ◌then◌ ◌else◌
  none_within calc = rw (e, no_literal, no_group calc)

  pub no_expression : expression s at ≡ Miss
  unfolding expression expression_in
  no_expression = none_within (combined Rounding)
