use Rattle.rewrite.proofs.DetailLaws.{other_laws}
use borrow.Author.Rules.{rules}
use Rattle.rewrite.proofs.detail.other.Goals as goal

pub returns-then-is_naming : goal.returns-then-is_naming
returns-then-is_naming c = search (rules, other_laws)

pub returns : goal.returns
returns c = search (rules, other_laws)
