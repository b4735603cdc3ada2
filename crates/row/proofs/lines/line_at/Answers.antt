use native.Mathlib.Omega.{arith}
use Rattle.row.proofs.LineLaws.{line_laws, line_below}
use borrow.Author.Rules.{rules}
use Rattle.row.proofs.lines.line_at.Goals as goal

pub overflow_add-l-then-l-s : goal.overflow_add-l-then-l-s
overflow_add-l-then-l-s c =
    let l = c.loop-l.l in
    let v = c.loop-l.invariant.0 in
    omega (arith, line_below c.args.s.now l.from l.stop l.number v.0 v.1 v.2 c.if-l-s.true)

pub line_from-l-requires : goal.line_from-l-requires
line_from-l-requires c = (search rules, search (rules, line_laws))

pub loop-l-smaller : goal.loop-l-smaller
loop-l-smaller c = search (rules, line_laws)

pub returns-else-l-s : goal.returns-else-l-s
returns-else-l-s c = search (rules, line_laws)

pub returns : goal.returns
returns c = search (rules, line_laws)
