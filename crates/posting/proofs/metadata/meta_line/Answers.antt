use Rattle.posting.proofs.MetaLaws.{line_laws}
use borrow.Author.Rules.{rules}
use Rattle.posting.proofs.metadata.meta_line.Goals as goal

pub returns-in_err-j : goal.returns-in_err-j
returns-in_err-j c = search (rules, line_laws, c.in_err-j.was)

pub returns : goal.returns
returns c = search (rules, line_laws, c.in_ok-j.was)
