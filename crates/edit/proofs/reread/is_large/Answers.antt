use Rattle.edit.proofs.JudgeLaws.{large_laws}
use borrow.Author.Rules.{rules}
use borrow.Author.Rules.{rules}
use Rattle.edit.proofs.reread.is_large.Goals as goal

pub returns-then-e-old : goal.returns-then-e-old
returns-then-e-old c = search (rules, large_laws)

pub returns-else-e-old : goal.returns-else-e-old
returns-else-e-old c = search (rules, large_laws)

pub returns-else-a-e : goal.returns-else-a-e
returns-else-a-e c = search (rules, large_laws)
