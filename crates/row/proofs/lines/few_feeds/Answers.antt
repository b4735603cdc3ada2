use Rattle.row.proofs.LineLaws.{counting}
use borrow.Author.Rules.{rules}
use Rattle.row.proofs.lines.few_feeds.Goals as goal

pub loop-b-init : goal.loop-b-init
loop-b-init c = search (rules, counting)

pub overflow_add-n : goal.overflow_add-n
overflow_add-n c = search (rules, counting)

pub loop-b-preserved : goal.loop-b-preserved
loop-b-preserved c = search (rules, counting)
