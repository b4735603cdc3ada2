use Rattle.order.proofs.SumLaws.{word_laws}
use borrow.Author.Rules.{rules}
use Rattle.order.proofs.sum.less.Goals as goal

pub returns : goal.returns
returns c = search (rules, word_laws)
