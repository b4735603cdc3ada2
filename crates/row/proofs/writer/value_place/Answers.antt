use Rattle.row.proofs.WriteLaws.{writing}
use borrow.Author.Rules.{rules}
use Rattle.row.proofs.writer.value_place.Goals as goal

pub returns-then-x-eq-NUMBER_META : goal.returns-then-x-eq-NUMBER_META
returns-then-x-eq-NUMBER_META c = search (rules, writing)

pub returns-else-x-eq-NUMBER_META : goal.returns-else-x-eq-NUMBER_META
returns-else-x-eq-NUMBER_META c = search (rules, writing)
