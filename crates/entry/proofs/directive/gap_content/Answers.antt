use Rattle.entry.proofs.FormLaws.{gap_content_laws}
use borrow.Author.Rules.{rules}
use Rattle.entry.proofs.directive.gap_content.Goals as goal

pub returns-in_err-j : goal.returns-in_err-j
returns-in_err-j c = search (rules, gap_content_laws, c.in_err-j.was)

pub content_end-requires : goal.content_end-requires
content_end-requires c = search (rules, gap_content_laws, c.in_ok-j.was)

pub returns : goal.returns
returns c = search (rules, gap_content_laws, c.in_ok-j.was)
