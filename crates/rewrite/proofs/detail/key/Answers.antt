use Rattle.rewrite.proofs.DetailLaws.{meta_laws}
use borrow.Author.Rules.{rules}
use Rattle.rewrite.proofs.detail.key.Goals as goal

pub returns : goal.returns
returns c = search (rules, meta_laws)
