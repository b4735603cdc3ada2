use Rattle.rewrite.proofs.DetailLaws.{text_laws}
use borrow.Author.Rules.{rules}
use Rattle.rewrite.proofs.detail.spaced.Goals as goal

pub returns : goal.returns
returns c = search (rules, text_laws)
