use borrow.Author.Rules.{rules}
use Rattle.replay.specs.Verdicts.{alike}
use Rattle.replay.proofs.compare.compared.Goals as goal

pub returns : goal.returns
unfolding alike
returns c = search rules
