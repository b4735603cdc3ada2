use Rattle.text.proofs.Steps.{by_tests}
use Rattle.text.specs.Lines.{comment_end}
use borrow.Author.Rules.{rules}
use Rattle.text.proofs.line.comment_end.Goals as goal

pub returns-then-s-at-eq59 : goal.returns-then-s-at-eq59
unfolding comment_end
returns-then-s-at-eq59 c = search (rules, by_tests)

pub returns-else-s-at-eq59 : goal.returns-else-s-at-eq59
unfolding comment_end
returns-else-s-at-eq59 c = search (rules, by_tests)

pub returns-else-at-s : goal.returns-else-at-s
unfolding comment_end
returns-else-at-s c = search (rules, by_tests)
