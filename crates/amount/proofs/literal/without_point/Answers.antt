use Rattle.amount.proofs.LiteralLaws.{answer_laws}
use borrow.Author.Rules.{rules}
use Rattle.amount.proofs.literal.without_point.Goals as goal

pub value-requires : goal.value-requires
value-requires c = search (rules, answer_laws)

pub returns-then-w : goal.returns-then-w
returns-then-w c = search (rules, answer_laws)

pub returns-else-w : goal.returns-else-w
returns-else-w c = search (rules, answer_laws)
