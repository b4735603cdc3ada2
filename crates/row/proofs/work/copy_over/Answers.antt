use Rattle.row.proofs.WorkLaws.{over_laws}
use borrow.Author.Rules.{rules}
use Rattle.row.proofs.work.copy_over.Goals as goal

pub loop-i-preserved : goal.loop-i-preserved
loop-i-preserved c = (search (rules, over_laws), search (rules, over_laws))

pub returns : goal.returns
returns c = search (rules, over_laws)
