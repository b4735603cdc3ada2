use Rattle.rewrite.proofs.DetailLaws.{other_laws}
use borrow.Author.Rules.{rules}
use Rattle.rewrite.proofs.detail.is_naming.Goals as goal

pub returns : goal.returns
returns c = search (rules, other_laws)
