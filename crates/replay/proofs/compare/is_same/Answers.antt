use Rattle.replay.proofs.VerdictLaws.{same_laws}
use borrow.Author.Rules.{rules}
use Rattle.replay.proofs.compare.is_same.Goals as goal

pub same-requires : goal.same-requires
same-requires c = search (rules, same_laws)

pub returns : goal.returns
returns c = search (rules, same_laws)
