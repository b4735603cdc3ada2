use Rattle.row.proofs.WriteLaws.{writing, emit_answer}
use borrow.Author.Rules.{rules}
use Rattle.row.proofs.writer.emit.Goals as goal
use Rattle.row.proofs.writer.emit.Goals.{then-fits, else-fits}

pub returns-clause-answer : goal.returns-clause-answer
returns-clause-answer c = search (rules, emit_answer, c.first_refused.ensures)

pub returns-clause-rows : goal.returns-clause-rows
returns-clause-rows c = elim c.if-fits.branch [ then-fits w ↦ search writing | else-fits w ↦ search writing ]
