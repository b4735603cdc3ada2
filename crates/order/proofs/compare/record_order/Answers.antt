use Rattle.order.proofs.CompareLaws.{record_laws}
use borrow.Author.Rules.{rules}
use Rattle.order.proofs.compare.record_order.Goals as goal

pub returns : goal.returns
returns c = search (rules, record_laws)
