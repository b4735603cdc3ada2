use Rattle.posting.proofs.LotLaws.{price_laws}
use borrow.Author.Rules.{rules}
use Rattle.posting.proofs.cost.price_at.Goals as goal

pub returns-then-eq-2 : goal.returns-then-eq-2
returns-then-eq-2 c = search (rules, price_laws)

pub returns-then-eq : goal.returns-then-eq
returns-then-eq c = search (rules, price_laws)

pub returns : goal.returns
returns c = search (rules, price_laws)
