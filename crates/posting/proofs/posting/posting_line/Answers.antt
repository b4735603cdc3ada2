use Rattle.posting.proofs.PostWrites.{line_laws}
use borrow.Author.Rules.{rules}
use Rattle.posting.proofs.posting.posting_line.Goals as goal

pub returns-in_err-j : goal.returns-in_err-j
returns-in_err-j c = search (rules, line_laws, c.in_err-j.was)

pub returns : goal.returns
returns c = search (rules, line_laws, c.in_ok-j.was)
