use Rattle.posting.proofs.MetaLaws.{line_laws}
use borrow.Author.Rules.{rules}
use Rattle.posting.proofs.metadata.keyed_line.Goals as goal

pub returns-in_err-e : goal.returns-in_err-e
returns-in_err-e c = search (rules, line_laws, c.in_err-e.was)

pub returns : goal.returns
returns c = search (rules, line_laws, c.in_ok-e.was)
