use Rattle.entry.proofs.KeywordLaws.{middle_laws}
use borrow.Author.Rules.{rules}
use Rattle.entry.proofs.directive.middle_keyword.Goals as goal

pub returns-in-Some : goal.returns-in-Some
returns-in-Some c = search (rules, middle_laws, c.in-Some.ensures)

pub returns-in-Some-word : goal.returns-in-Some-word
returns-in-Some-word c = search (rules, middle_laws, c.in-Some-word.ensures)

pub returns : goal.returns
returns c = search (rules, middle_laws)
