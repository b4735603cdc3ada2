use Rattle.bus.proofs.RowLaws.{measured_laws}
use borrow.Author.Rules.{rules}
use Rattle.bus.proofs.writer.measure_row.Goals as goal

pub returns-then-r-lt-FIRST_DETAIL : goal.returns-then-r-lt-FIRST_DETAIL
returns-then-r-lt-FIRST_DETAIL c = search (rules, measured_laws)

pub returns-then-text-le-LONGEST : goal.returns-then-text-le-LONGEST
returns-then-text-le-LONGEST c = search (rules, measured_laws)

pub returns-then-is_good : goal.returns-then-is_good
returns-then-is_good c = search (rules, measured_laws)

pub returns : goal.returns
returns c = search (rules, measured_laws)
