use Rattle.decimal.proofs.Laws.{total_laws}
use borrow.Author.Rules.{rules}
use Rattle.decimal.proofs.together.Goals as goal

pub returns-then-n-m : goal.returns-then-n-m
returns-then-n-m c = search (rules, total_laws)

pub returns-else-n-m : goal.returns-else-n-m
returns-else-n-m c = search (rules, total_laws)

pub returns-else-unlike : goal.returns-else-unlike
returns-else-unlike c = search (rules, total_laws)
