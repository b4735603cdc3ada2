-- The examples read as they are listed, by computation.
use Rattle.std.specs.Prelude.{◌≡◌, refl, map}
use Rattle.decimal.specs.declared.Form.TheVariants.{Exact}
use Rattle.amount.specs.Expression.{expression_in}
use Rattle.amount.specs.Opened.{opened}
use Rattle.amount.specs.Examples.{examples}

-- every example reads as it says, in the exact form
pub examples_read : map (λ x. expression_in Exact x.0 0) examples ≡ map (λ x. x.1) examples
unfolding opened examples
examples_read = refl
