use Rattle.posting.proofs.PostWrites.{costs_laws}
use borrow.Author.Rules.{rules}
use Rattle.posting.proofs.posting.costs_at.Goals as goal

pub returns-in_err-e : goal.returns-in_err-e
returns-in_err-e c = search (rules, costs_laws, c.in_err-e.was)

pub optional_price-requires : goal.optional_price-requires
optional_price-requires c = search (rules, costs_laws, c.in_ok-e.was)

pub returns : goal.returns
returns c = search (rules, costs_laws, c.in_ok-e.was)
