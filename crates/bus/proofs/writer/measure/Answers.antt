use Rattle.bus.proofs.RowsLaws.{measure_laws}
use borrow.Author.Rules.{rules}
use Rattle.bus.proofs.writer.measure.Goals as goal

pub returns-in_err-size : goal.returns-in_err-size
returns-in_err-size c = search (rules, measure_laws, c.in_err-size.was)

pub loop-k-preserved : goal.loop-k-preserved
loop-k-preserved c = search (rules, measure_laws, c.in_ok-size.was)

pub returns : goal.returns
returns c = search (rules, measure_laws)
