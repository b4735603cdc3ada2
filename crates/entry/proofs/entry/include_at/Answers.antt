use Rattle.entry.proofs.UndatedLaws.{include_laws}
use borrow.Author.Rules.{rules}
use Rattle.entry.proofs.entry.include_at.Goals as goal

pub returns-in_err-j : goal.returns-in_err-j
returns-in_err-j c = search (rules, include_laws, c.in_err-j.was)

pub returns : goal.returns
returns c = search (rules, include_laws, c.in_ok-j.was)
