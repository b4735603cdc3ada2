use Rattle.decimal.proofs.Laws.{settled_laws}
use borrow.Author.Rules.{rules}
use Rattle.decimal.proofs.settled.Goals as goal

pub returns-in-Exact : goal.returns-in-Exact
returns-in-Exact c = search (rules, settled_laws)

pub returns-in-Rounding : goal.returns-in-Rounding
returns-in-Rounding c = search (rules, settled_laws)
