use Rattle.text.proofs.DateLaws.{date_laws}
use borrow.Author.Rules.{rules}
use Rattle.text.proofs.date.date.Goals as goal

pub returns-then-s-lt10 : goal.returns-then-s-lt10
returns-then-s-lt10 c = search (rules, date_laws)

pub returns-then-s-at : goal.returns-then-s-at
returns-then-s-at c = search (rules, date_laws)

pub returns-then-shape : goal.returns-then-shape
returns-then-shape c = search (rules, date_laws)

pub returns : goal.returns
returns c = search (rules, date_laws)
