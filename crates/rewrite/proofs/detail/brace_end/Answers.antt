use Rattle.rewrite.proofs.DetailLaws.{brace_laws}
use borrow.Author.Rules.{rules}
use Rattle.rewrite.proofs.detail.brace_end.Goals as goal

pub returns-then-n-eq0 : goal.returns-then-n-eq0
returns-then-n-eq0 c = search (rules, brace_laws)

pub returns-then-comma : goal.returns-then-comma
returns-then-comma c = search (rules, brace_laws)

pub returns : goal.returns
returns c = search (rules, brace_laws)
