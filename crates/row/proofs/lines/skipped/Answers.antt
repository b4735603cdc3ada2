use Rattle.row.proofs.LineLaws.{skip_eight}
use borrow.Author.Rules.{rules}
use Rattle.row.proofs.lines.skipped.Goals as goal

pub loop-i-preserved : goal.loop-i-preserved
loop-i-preserved c = search (rules, skip_eight)
