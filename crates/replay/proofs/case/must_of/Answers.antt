use Rattle.replay.proofs.HeaderLaws.{header_laws}
use borrow.Author.Rules.{rules}
use Rattle.replay.proofs.case.must_of.Goals as goal

pub returns : goal.returns
returns c = search (rules, header_laws)
