use Rattle.access.proofs.SpanLaws.{span_laws}
use Rattle.access.specs.Spans.{good_span}
use borrow.Author.Rules.{rules}
use Rattle.access.proofs.span.is_good.Goals as goal

pub returns : goal.returns
unfolding good_span
returns c = search (rules, span_laws)
