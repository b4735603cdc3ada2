use Rattle.text.proofs.Steps.{by_tests}
use Rattle.text.specs.Strings.{string_at}
use borrow.Author.Rules.{rules}
use Rattle.text.proofs.string.string.Goals as goal

pub returns-then-s-at-eq34 : goal.returns-then-s-at-eq34
unfolding string_at
returns-then-s-at-eq34 c = search (rules, by_tests)

pub returns-else-s-at-eq34 : goal.returns-else-s-at-eq34
unfolding string_at
returns-else-s-at-eq34 c = search (rules, by_tests)

pub returns-else-at-s : goal.returns-else-at-s
unfolding string_at
returns-else-at-s c = search (rules, by_tests)
