use Rattle.amount.proofs.LiteralLaws.{fraction_laws}
use Rattle.amount.specs.steps.Kept.{factor}
use borrow.Author.Rules.{rules}
use Rattle.amount.proofs.literal.fraction_part.Goals as goal
use Rattle.amount.proofs.literal.fraction_part.Goals.{then-places-lt6, else-places-lt6+then-b-ne48, else-places-lt6+else-b-ne48}

pub loop-i-init : goal.loop-i-init
unfolding factor
loop-i-init c = search (rules, fraction_laws)

pub loop-i-preserved-then-b-eq44 : goal.loop-i-preserved-then-b-eq44
loop-i-preserved-then-b-eq44 c = search (rules, fraction_laws)

pub returns-then-not-is_digit-clause-value : goal.returns-then-not-is_digit-clause-value
returns-then-not-is_digit-clause-value c = search (rules, fraction_laws)

pub overflow_mul-size : goal.overflow_mul-size
overflow_mul-size c = search (rules, fraction_laws)

pub overflow_sub-b : goal.overflow_sub-b
overflow_sub-b c = search (rules, fraction_laws)

pub overflow_add-size : goal.overflow_add-size
overflow_add-size c = search (rules, fraction_laws)

pub loop-i-preserved : goal.loop-i-preserved
loop-i-preserved c =
    elim c.if-places-lt6.branch [
      | then-places-lt6 w ↦ search (rules, fraction_laws)
      | else-places-lt6+then-b-ne48 w ↦ search (rules, fraction_laws)
      | else-places-lt6+else-b-ne48 w ↦ search (rules, fraction_laws)
    ]

pub returns-clause-value : goal.returns-clause-value
returns-clause-value c = search (rules, fraction_laws)
