use Rattle.text.proofs.DateLaws.{in_laws}
use borrow.Author.Rules.{rules}
use Rattle.text.proofs.date.date_in.Goals as goal

pub returns-then-m-d : goal.returns-then-m-d
returns-then-m-d c = search (rules, in_laws)

pub returns : goal.returns
returns c = search (rules, in_laws)
