use Rattle.decimal.proofs.Whole.{bits_laws}
use borrow.Author.Rules.{rules}
use Rattle.decimal.proofs.row_bits.Goals as goal

pub returns-then-size-eq0 : goal.returns-then-size-eq0
returns-then-size-eq0 c = search (rules, bits_laws)

pub returns-else-size-eq0 : goal.returns-else-size-eq0
returns-else-size-eq0 c = search (rules, bits_laws)

pub returns-else-a : goal.returns-else-a
returns-else-a c = search (rules, bits_laws)
