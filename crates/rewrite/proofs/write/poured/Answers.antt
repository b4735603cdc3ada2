use Rattle.layout.specs.Written.{written}
use Rattle.rewrite.proofs.RowsLaws.{pour_laws}
use borrow.Author.Rules.{rules}
use Rattle.rewrite.proofs.write.poured.Goals as goal

pub returns-then-output-need : goal.returns-then-output-need
unfolding written
returns-then-output-need c = search (rules, pour_laws)

pub returns : goal.returns
unfolding written
returns c = search (rules, pour_laws)
