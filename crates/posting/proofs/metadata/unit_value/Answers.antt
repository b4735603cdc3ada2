use Rattle.posting.proofs.MetaLaws.{unit_laws}
use borrow.Author.Rules.{rules}
use Rattle.posting.proofs.metadata.unit_value.Goals as goal

pub returns-in_err-e : goal.returns-in_err-e
returns-in_err-e c = search (rules, unit_laws, c.in_err-e.was)

pub returns : goal.returns
returns c = search (rules, unit_laws, c.in_ok-e.was)
