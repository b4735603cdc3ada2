use Rattle.content.proofs.ContentLaws.{gap_laws}
use borrow.Author.Rules.{rules}
use Rattle.content.proofs.content.gap_hard_string.Goals as goal

pub returns-in_err-j : goal.returns-in_err-j
returns-in_err-j c = search (rules, gap_laws, c.in_err-j.was)

pub returns : goal.returns
returns c = search (rules, gap_laws, c.in_ok-j.was)
