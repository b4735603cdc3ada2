use mathlib.Core.Path.{◌∙◌, ap}
use Rattle.lumbrisse.specs.Numbers.{evaluated_of}
use Rattle.lumbrisse.proofs.lumbrisse_expression_stacked_exact.Goals as goal

pub returns : goal.returns
returns c = c.evaluated_of.ensures ∙ ap evaluated_of c.evaluate_stacked-a.ensures
