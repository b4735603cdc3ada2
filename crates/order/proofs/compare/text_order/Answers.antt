use Rattle.order.proofs.CompareLaws.{text_laws}
use borrow.Author.Rules.{rules}
use Rattle.order.proofs.compare.text_order.Goals as goal

pub returns-then-y-i : goal.returns-then-y-i
returns-then-y-i c = search (rules, text_laws)

pub returns-then-is_ne : goal.returns-then-is_ne
returns-then-is_ne c = search (rules, text_laws)

pub loop-i-preserved : goal.loop-i-preserved
loop-i-preserved c = search (rules, text_laws)

pub returns : goal.returns
returns c = search (rules, text_laws)
