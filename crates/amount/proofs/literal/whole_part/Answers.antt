use Rattle.amount.proofs.LiteralLaws.{whole_laws}
use borrow.Author.Rules.{rules}
use Rattle.amount.proofs.literal.whole_part.Goals as goal
use Rattle.amount.proofs.literal.whole_part.Goals.{then-size-lt1000000000, else-size-lt1000000000}

pub loop-i-preserved-then-b-eq44 : goal.loop-i-preserved-then-b-eq44
loop-i-preserved-then-b-eq44 c = search (rules, whole_laws)

pub returns-then-not-is_digit-clause-value : goal.returns-then-not-is_digit-clause-value
returns-then-not-is_digit-clause-value c = search (rules, whole_laws)

pub overflow_sub-b : goal.overflow_sub-b
overflow_sub-b c = search (rules, whole_laws)

pub loop-i-preserved : goal.loop-i-preserved
loop-i-preserved c = elim c.if-size-lt1000000000.branch [ then-size-lt1000000000 w ↦ search (rules, whole_laws) | else-size-lt1000000000 w ↦ search (rules, whole_laws) ]

pub returns-clause-value : goal.returns-clause-value
returns-clause-value c = search (rules, whole_laws)
