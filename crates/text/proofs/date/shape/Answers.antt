use Rattle.text.proofs.DateLaws.{shape_laws}
use borrow.Author.Rules.{rules}
use Rattle.text.proofs.date.shape.Goals as goal

pub returns : goal.returns
returns c = search (rules, shape_laws)
