use Rattle.text.proofs.Steps.{by_tests}
use Rattle.text.specs.Lines.{empty_at}
use borrow.Author.Rules.{rules}
use Rattle.text.proofs.line.empty_line.Goals as goal

pub returns-then-at-s : goal.returns-then-at-s
unfolding empty_at
returns-then-at-s c = search (rules, by_tests)

pub returns-else-at-s : goal.returns-else-at-s
unfolding empty_at
returns-else-at-s c = search (rules, by_tests)
