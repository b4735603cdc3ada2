use Rattle.edit.proofs.SpanLaws.{new_laws}
use borrow.Author.Rules.{rules}
use borrow.Author.Rules.{rules}
use Rattle.edit.proofs.span.is_new.Goals as goal

pub returns-then-y-eq0 : goal.returns-then-y-eq0
returns-then-y-eq0 c = search (rules, new_laws)

pub returns-then-starts_well : goal.returns-then-starts_well
returns-then-starts_well c = search (rules, new_laws)

pub returns : goal.returns
returns c = search (rules, new_laws)
