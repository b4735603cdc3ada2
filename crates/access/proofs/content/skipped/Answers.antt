use Rattle.access.proofs.ContentLaws.{slash_laws}
use borrow.Author.Rules.{rules}
use Rattle.access.proofs.content.skipped.Goals as goal

pub returns : goal.returns
returns c = search (rules, slash_laws)
