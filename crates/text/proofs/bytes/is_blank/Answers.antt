use Rattle.text.proofs.Steps.{by_tests}
use Rattle.text.specs.Bytes.{is_blank}
use borrow.Author.Rules.{rules}
use Rattle.text.proofs.bytes.is_blank.Goals as goal

pub returns-then-b-eq32 : goal.returns-then-b-eq32
unfolding is_blank
returns-then-b-eq32 c = search (rules, by_tests)

pub returns : goal.returns
unfolding is_blank
returns c = search (rules, by_tests)
