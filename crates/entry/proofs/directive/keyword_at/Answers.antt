use Rattle.entry.proofs.KeywordLaws.{keyword_laws}
use borrow.Author.Rules.{rules}
use Rattle.entry.proofs.directive.keyword_at.Goals as goal

pub returns-in-Some : goal.returns-in-Some
returns-in-Some c = search (rules, keyword_laws, c.in-Some.ensures)

pub returns-in-Some-word : goal.returns-in-Some-word
returns-in-Some-word c = search (rules, keyword_laws, c.in-Some-word.ensures)

pub returns : goal.returns
returns c = search (rules, keyword_laws)
