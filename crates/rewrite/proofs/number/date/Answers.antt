use Rattle.rewrite.proofs.NumberLaws.{date_laws}
use borrow.Author.Rules.{rules}
use Rattle.rewrite.proofs.number.date.Goals as goal

pub returns : goal.returns
returns c = search (rules, date_laws)
