use Rattle.edit.proofs.SpanLaws.{well_laws}
use borrow.Author.Rules.{rules}
use borrow.Author.Rules.{rules}
use Rattle.edit.proofs.span.starts_well.Goals as goal

pub returns-then-a-eq0 : goal.returns-then-a-eq0
returns-then-a-eq0 c = search (rules, well_laws)

pub returns-then-y-gt0 : goal.returns-then-y-gt0
returns-then-y-gt0 c = search (rules, well_laws)

pub returns : goal.returns
returns c = search (rules, well_laws)
