use Rattle.posting.proofs.PostWrites.{flagged_laws}
use borrow.Author.Rules.{rules}
use Rattle.posting.proofs.posting.flagged_at.Goals as goal

pub returns-in-Some : goal.returns-in-Some
returns-in-Some c = search (rules, flagged_laws)

pub returns-in-None : goal.returns-in-None
returns-in-None c = search (rules, flagged_laws)
