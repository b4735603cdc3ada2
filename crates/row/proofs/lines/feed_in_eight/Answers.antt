use Rattle.row.proofs.LineLaws.{within_eight}
use borrow.Author.Rules.{rules}
use Rattle.row.proofs.lines.feed_in_eight.Goals as goal

pub returns : goal.returns
returns c = search (rules, within_eight)
