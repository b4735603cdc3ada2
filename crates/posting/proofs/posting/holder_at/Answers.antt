use Rattle.posting.proofs.PostWrites.{holder_laws}
use borrow.Author.Rules.{rules}
use Rattle.posting.proofs.posting.holder_at.Goals as goal

pub returns-in_err-e : goal.returns-in_err-e
returns-in_err-e c = search (rules, holder_laws, c.in_err-e.was)

pub units_end-requires : goal.units_end-requires
units_end-requires c = search (rules, holder_laws)

pub returns : goal.returns
returns c = search (rules, holder_laws, c.in_ok-e.was)
