use Rattle.posting.proofs.LotLaws.{brace_laws}
use borrow.Author.Rules.{rules}
use Rattle.posting.proofs.cost.brace_at.Goals as goal

pub returns-then-eq : goal.returns-then-eq
returns-then-eq c = search (rules, brace_laws)

pub returns : goal.returns
returns c = search (rules, brace_laws)
