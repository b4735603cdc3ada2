use Rattle.bus.proofs.FieldLaws.{put_laws}
use borrow.Author.Rules.{rules}
use Rattle.bus.proofs.field.put_field.Goals as goal

pub returns-clause-place : goal.returns-clause-place
returns-clause-place c = search (rules, put_laws)

pub returns-clause-bytes : goal.returns-clause-bytes
returns-clause-bytes c = search (rules, put_laws)
