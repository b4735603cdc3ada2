use Rattle.entry.proofs.FormLaws.{dateless_laws}
use borrow.Author.Rules.{rules}
use Rattle.entry.proofs.directive.dateless_at.Goals as goal

pub returns-in-Err-Miss : goal.returns-in-Err-Miss
returns-in-Err-Miss c = search (rules, dateless_laws, c.in-Err-Miss.ensures)

pub returns-in_default : goal.returns-in_default
returns-in_default c = search (rules, dateless_laws)
