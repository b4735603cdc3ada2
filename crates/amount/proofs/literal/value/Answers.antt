use Rattle.amount.proofs.LiteralLaws.{value_laws}
use borrow.Author.Rules.{rules}
use Rattle.amount.proofs.literal.value.Goals as goal

pub returns-then-whole-ge1000000000 : goal.returns-then-whole-ge1000000000
returns-then-whole-ge1000000000 c = search (rules, value_laws)

pub returns-then-tail : goal.returns-then-tail
returns-then-tail c = search (rules, value_laws)

pub returns-else-tail : goal.returns-else-tail
returns-else-tail c = search (rules, value_laws)
