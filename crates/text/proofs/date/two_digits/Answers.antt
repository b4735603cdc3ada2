use Rattle.text.specs.Dates.{two}
use borrow.Author.Rules.{rules}
use Rattle.text.proofs.date.two_digits.Goals as goal

pub returns-clause-value : goal.returns-clause-value
unfolding two
returns-clause-value c = search rules
