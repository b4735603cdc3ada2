use Rattle.amount.proofs.LiteralLaws.{answer_laws}
use borrow.Author.Rules.{rules}
use Rattle.amount.proofs.literal.with_point.Goals as goal

pub returns-then-peek-eq46 : goal.returns-then-peek-eq46
returns-then-peek-eq46 c = search (rules, answer_laws)

pub returns-then-f : goal.returns-then-f
returns-then-f c = search (rules, answer_laws)

pub returns-else-f : goal.returns-else-f
returns-else-f c = search (rules, answer_laws)
