use Rattle.entry.proofs.UndatedLaws.{option_laws}
use borrow.Author.Rules.{rules}
use Rattle.entry.proofs.entry.option_at.Goals as goal

pub returns-in_err-e : goal.returns-in_err-e
returns-in_err-e c = search (rules, option_laws, c.in_err-e.was)

pub returns : goal.returns
returns c = search (rules, option_laws, c.in_ok-e.was)
