use Rattle.edit.proofs.SpanLaws.{start_laws}
use borrow.Author.Rules.{rules}
use borrow.Author.Rules.{rules}
use Rattle.edit.proofs.span.may_start.Goals as goal

pub returns-then-a-eq0 : goal.returns-then-a-eq0
returns-then-a-eq0 c = search (rules, start_laws)

pub returns-then-b-eq10 : goal.returns-then-b-eq10
returns-then-b-eq10 c = search (rules, start_laws)

pub returns : goal.returns
returns c = search (rules, start_laws)
