use Rattle.order.proofs.MergeLaws.{first_laws}
use borrow.Author.Rules.{rules}
use Rattle.order.proofs.sort.left_first.Goals as goal

pub returns-then-n-j : goal.returns-then-n-j
returns-then-n-j c = search (rules, first_laws)

pub returns-else-n-j : goal.returns-else-n-j
returns-else-n-j c = search (rules, first_laws)

pub returns-else-i-m : goal.returns-else-i-m
returns-else-i-m c = search (rules, first_laws)
