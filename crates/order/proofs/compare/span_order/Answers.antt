use Rattle.order.proofs.CompareLaws.{spans_told}
use borrow.Author.Rules.{rules}
use Rattle.order.proofs.compare.span_order.Goals as goal

pub text_of-x-requires : goal.text_of-x-requires
text_of-x-requires c = search (rules, spans_told)

pub text_of-y-requires : goal.text_of-y-requires
text_of-y-requires c = search (rules, spans_told)

pub text_order-requires : goal.text_order-requires
text_order-requires c = search (rules, spans_told)

pub returns : goal.returns
returns c = search (rules, spans_told)
