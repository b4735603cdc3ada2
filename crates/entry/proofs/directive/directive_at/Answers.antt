use Rattle.entry.proofs.FormLaws.{directive_laws}
use borrow.Author.Rules.{rules}
use Rattle.entry.proofs.directive.directive_at.Goals as goal

pub returns-in_err-e : goal.returns-in_err-e
returns-in_err-e c = search (rules, directive_laws, c.in_err-e.was)

pub returns-in_err-j : goal.returns-in_err-j
returns-in_err-j c = search (rules, directive_laws, c.in_ok-e.was, c.in_err-j.was)

pub dateless_at-requires : goal.dateless_at-requires
dateless_at-requires c = search (rules, directive_laws, c.in_ok-e.was, c.in_ok-j.was)

pub returns : goal.returns
returns c = search (rules, directive_laws)
