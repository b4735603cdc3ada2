use Rattle.order.proofs.CompareLaws.{front_laws}
use borrow.Author.Rules.{rules}
use Rattle.order.proofs.compare.same_front.Goals as goal

pub loop-i-init : goal.loop-i-init
loop-i-init c = search (rules, front_laws)

pub overflow_add-i : goal.overflow_add-i
overflow_add-i c = search (rules, front_laws)

pub overflow_add-i-in-loop-i : goal.overflow_add-i-in-loop-i
overflow_add-i-in-loop-i c = search (rules, front_laws)

pub returns-then-y-i : goal.returns-then-y-i
returns-then-y-i c = search (rules, front_laws)

pub eight_same-requires : goal.eight_same-requires
eight_same-requires c = search (rules, front_laws)

pub overflow_add-i-then-eight_same : goal.overflow_add-i-then-eight_same
overflow_add-i-then-eight_same c = search (rules, front_laws)

pub loop-i-smaller : goal.loop-i-smaller
loop-i-smaller c = search (rules, front_laws)

pub loop-i-preserved : goal.loop-i-preserved
loop-i-preserved c = search (rules, front_laws)

pub returns-else-eight_same : goal.returns-else-eight_same
returns-else-eight_same c = search (rules, front_laws)

pub returns : goal.returns
returns c = search (rules, front_laws)
