use Rattle.bus.proofs.FieldLaws.{whole_laws}
use borrow.Author.Rules.{rules}
use Rattle.bus.proofs.field.is_whole.Goals as goal

pub returns-then-r-lt-HEAD : goal.returns-then-r-lt-HEAD
returns-then-r-lt-HEAD c = search (rules, whole_laws)

pub returns : goal.returns
returns c = search (rules, whole_laws)
