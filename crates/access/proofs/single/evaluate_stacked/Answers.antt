use Rattle.access.proofs.SingleLaws.{single_laws}
use borrow.Author.Rules.{rules}
use Rattle.access.proofs.single.evaluate_stacked.Goals as goal

pub returns-in_err-judge : goal.returns-in_err-judge
returns-in_err-judge c = search (rules, single_laws, c.in_err-judge.was)

pub returns : goal.returns
returns c = search (rules, single_laws, c.in_ok-judge.was)
