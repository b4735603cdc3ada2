use Rattle.bus.proofs.FieldLaws.{stated_laws}
use borrow.Author.Rules.{rules}
use Rattle.bus.proofs.field.stated_length.Goals as goal

pub returns : goal.returns
returns c = search (rules, stated_laws)
