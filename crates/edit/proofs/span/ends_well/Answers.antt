use Rattle.edit.proofs.SpanLaws.{well_laws}
use borrow.Author.Rules.{rules}
use borrow.Author.Rules.{rules}
use Rattle.edit.proofs.span.ends_well.Goals as goal

pub returns-then-y-gt0 : goal.returns-then-y-gt0
returns-then-y-gt0 c = search (rules, well_laws)

pub returns : goal.returns
returns c = search (rules, well_laws)
