use Rattle.posting.proofs.MetaLaws.{end_laws}
use borrow.Author.Rules.{rules}
use Rattle.posting.proofs.metadata.value_end.Goals as goal

pub returns-in_err-e : goal.returns-in_err-e
returns-in_err-e c = search (rules, end_laws, c.in_err-e.was)

pub returns-in_err-f : goal.returns-in_err-f
returns-in_err-f c = search (rules, end_laws, c.in_ok-e.was, c.in_err-f.was)

pub returns : goal.returns
returns c = search (rules, end_laws, c.in_ok-e.was, c.in_ok-f.was)
