use Rattle.entry.proofs.KeywordLaws.{late_laws}
use borrow.Author.Rules.{rules}
use Rattle.entry.proofs.directive.late_keyword.Goals as goal

pub returns-in-Some : goal.returns-in-Some
returns-in-Some c = search (rules, late_laws, c.in-Some.ensures)

pub returns-in-Some-word : goal.returns-in-Some-word
returns-in-Some-word c = search (rules, late_laws, c.in-Some-word.ensures)

pub returns-in_err-e : goal.returns-in_err-e
returns-in_err-e c = search (rules, late_laws, c.in_err-e.was)

pub returns : goal.returns
returns c = search (rules, late_laws, c.in_ok-e.was)
