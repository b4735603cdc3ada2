use Rattle.decimal.proofs.Laws.{rounded_laws}
use borrow.Author.Rules.{rules}
use Rattle.decimal.proofs.rounded.Goals as goal

pub returns-then-twice-by : goal.returns-then-twice-by
returns-then-twice-by c = search (rules, rounded_laws)

pub returns-then-by-twice : goal.returns-then-by-twice
returns-then-by-twice c = search (rules, rounded_laws)

pub returns : goal.returns
returns c = search (rules, rounded_laws)
