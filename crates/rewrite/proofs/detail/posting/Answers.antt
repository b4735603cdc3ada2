use Rattle.rewrite.proofs.DetailLaws.{posting_laws}
use borrow.Author.Rules.{rules}
use Rattle.rewrite.proofs.detail.posting.Goals as goal

pub returns-then-x-eq0 : goal.returns-then-x-eq0
returns-then-x-eq0 c = search (rules, posting_laws)

pub returns : goal.returns
returns c = search (rules, posting_laws)
