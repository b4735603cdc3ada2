use Rattle.amount.proofs.LiteralLaws.{factor_laws}
use Rattle.amount.specs.steps.Kept.{factor}
use borrow.Author.Rules.{rules}
use Rattle.amount.proofs.literal.power.Goals as goal

pub returns-in-0 : goal.returns-in-0
unfolding factor
returns-in-0 c = search (rules, factor_laws)

pub returns-in-1 : goal.returns-in-1
unfolding factor
returns-in-1 c = search (rules, factor_laws)

pub returns-in-2 : goal.returns-in-2
unfolding factor
returns-in-2 c = search (rules, factor_laws)

pub returns-in-3 : goal.returns-in-3
unfolding factor
returns-in-3 c = search (rules, factor_laws)

pub returns-in-4 : goal.returns-in-4
unfolding factor
returns-in-4 c = search (rules, factor_laws)

pub returns-in-5 : goal.returns-in-5
unfolding factor
returns-in-5 c = search (rules, factor_laws)

pub returns-in_default : goal.returns-in_default
unfolding factor
returns-in_default c = search (rules, factor_laws)
