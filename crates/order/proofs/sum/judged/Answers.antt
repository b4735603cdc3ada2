use Rattle.order.proofs.SumLaws.{held_laws}
use borrow.Author.Rules.{rules}
use Rattle.order.proofs.sum.judged.Goals as goal

pub returns-then-w-n : goal.returns-then-w-n
returns-then-w-n c = search (rules, held_laws)

pub returns-then-low-gt0 : goal.returns-then-low-gt0
returns-then-low-gt0 c = search (rules, held_laws)

pub returns : goal.returns
returns c = search (rules, held_laws)
