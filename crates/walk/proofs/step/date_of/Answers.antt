use Rattle.walk.proofs.EntryTurns.{date_laws}
use borrow.Author.Rules.{rules}
use Rattle.walk.proofs.step.date_of.Goals as goal

pub returns-in-Some : goal.returns-in-Some
returns-in-Some c = search (rules, date_laws, c.in-Some.ensures)

pub returns-in-None : goal.returns-in-None
returns-in-None c = search (rules, date_laws, c.in-None.ensures)
