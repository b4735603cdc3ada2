use mathlib.Core.Path.{refl}
use Rattle.access.proofs.ContentLaws.{measure_laws, measure_on}
use borrow.Author.Rules.{rules}
use Rattle.access.proofs.content.measure.Goals as goal

pub loop-i-init : goal.loop-i-init
loop-i-init c = search (rules, measure_laws)

pub returns-in_err-k : goal.returns-in_err-k
returns-in_err-k c = search (rules, measure_laws, c.in_err-k.was)

pub overflow_add-i-in-loop-i : goal.overflow_add-i-in-loop-i
overflow_add-i-in-loop-i c = search (rules, measure_laws, c.in_ok-k.was)

pub loop-i-smaller : goal.loop-i-smaller
loop-i-smaller c = search (rules, measure_laws, c.in_ok-k.was)

pub loop-i-preserved : goal.loop-i-preserved
loop-i-preserved c =
    let l = c.loop-i in
    (measure_on _ _ l.ordinary l.i l.count l.invariant.0 c.loop-i-test.true _ _ _ refl c.peek.ensures c.taken_by.ensures _ c.in_ok-k.was, search (rules, measure_laws, c.in_ok-k.was), search (rules, measure_laws, c.in_ok-k.was))

pub returns : goal.returns
returns c = search (rules, measure_laws)
