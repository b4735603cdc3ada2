use Rattle.row.proofs.SweepLaws.{sweeping, sweep_on, sweep_end}
use borrow.Author.Rules.{rules}
use Rattle.row.proofs.lines.set_lines.Goals as goal
use Rattle.row.proofs.lines.set_lines.Goals.{then-start-l, else-start-l}

pub line_from-l-requires : goal.line_from-l-requires
line_from-l-requires c = search (rules, sweeping)

pub line_from-l-requires-then-start-l : goal.line_from-l-requires-then-start-l
line_from-l-requires-then-start-l c = search (rules, sweeping)

pub loop-k-preserved : goal.loop-k-preserved
loop-k-preserved c =
    let L = c.loop-k in (
      sweep_on _ L.table L.k _ L.invariant.0 _ _ (search rules) c.get_four-start.ensures c.line_at-l.ensures.1 c.put_four.ensures,
      search rules,
      search rules,
    )

pub returns : goal.returns
returns c = sweep_end _ _ _ _ c.loop-k.invariant.0 (search rules)
