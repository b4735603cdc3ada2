use Rattle.row.proofs.WorkLaws.{copy_put}
use borrow.Author.Rules.{rules}
use Rattle.row.proofs.work.copy.Goals as goal

pub returns : goal.returns
returns c = search (rules, copy_put)
