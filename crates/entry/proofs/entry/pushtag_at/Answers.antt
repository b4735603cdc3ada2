use Rattle.entry.proofs.UndatedLaws.{word_laws}
use borrow.Author.Rules.{rules}
use Rattle.entry.proofs.entry.pushtag_at.Goals as goal

pub returns-in-Some : goal.returns-in-Some
returns-in-Some c = search (rules, word_laws, c.in-Some.ensures)

pub returns-in-None : goal.returns-in-None
returns-in-None c = search (rules, word_laws, c.in-None.ensures)
