use Rattle.decimal.proofs.Laws.{by_tests}
use Rattle.decimal.specs.steps.Judged.{judged_of}
use borrow.Author.Rules.{rules}
use Rattle.decimal.proofs.judged.Goals as goal

pub returns-then-whole-gt-LIMIT : goal.returns-then-whole-gt-LIMIT
unfolding judged_of
returns-then-whole-gt-LIMIT c = search (rules, by_tests)

pub returns-then-rest-eq0 : goal.returns-then-rest-eq0
unfolding judged_of
returns-then-rest-eq0 c = search (rules, by_tests)

pub returns-then-whole-eq-LIMIT : goal.returns-then-whole-eq-LIMIT
unfolding judged_of
returns-then-whole-eq-LIMIT c = search (rules, by_tests)

pub returns : goal.returns
unfolding judged_of
returns c = search (rules, by_tests)
