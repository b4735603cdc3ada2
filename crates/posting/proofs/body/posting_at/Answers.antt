use Rattle.posting.proofs.BodyWrites.{posting_laws}
use borrow.Author.Rules.{rules}
use Rattle.posting.proofs.body.posting_at.Goals as goal

pub returns-in_err-e : goal.returns-in_err-e
returns-in_err-e c = search (rules, posting_laws, c.in_err-e.was)

pub metadata_at-requires : goal.metadata_at-requires
metadata_at-requires c = search (rules, posting_laws, c.in_ok-e.was)

pub returns : goal.returns
returns c = search (rules, posting_laws, c.in_ok-e.was)
