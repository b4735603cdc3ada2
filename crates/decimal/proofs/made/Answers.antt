use Rattle.decimal.proofs.Laws.{made_laws}
use borrow.Author.Rules.{rules}
use Rattle.decimal.proofs.made.Goals as goal

pub returns-then-size-eq0 : goal.returns-then-size-eq0
returns-then-size-eq0 c = search (rules, made_laws)

pub returns-else-size-eq0 : goal.returns-else-size-eq0
returns-else-size-eq0 c = search (rules, made_laws)
