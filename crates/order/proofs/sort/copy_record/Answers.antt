use Rattle.order.proofs.MergeLaws.{copy_record}
use borrow.Author.Rules.{rules}
use Rattle.order.proofs.sort.copy_record.Goals as goal

pub returns : goal.returns
returns c = search (rules, copy_record)
