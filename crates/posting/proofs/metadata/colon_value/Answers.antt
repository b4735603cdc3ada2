use Rattle.posting.proofs.MetaLaws.{line_laws}
use borrow.Author.Rules.{rules}
use Rattle.posting.proofs.metadata.colon_value.Goals as goal

pub returns-then-eq : goal.returns-then-eq
returns-then-eq c = search (rules, line_laws)

pub returns : goal.returns
returns c = search (rules, line_laws)
