use Rattle.replay.proofs.ChangeLaws.{change_laws}
use borrow.Author.Rules.{rules}
use Rattle.replay.proofs.change.edited.Goals as goal

pub returns-then-second-d-clause-answer : goal.returns-then-second-d-clause-answer
returns-then-second-d-clause-answer c = search (rules, change_laws)

pub returns-then-second-d-clause-bytes : goal.returns-then-second-d-clause-bytes
returns-then-second-d-clause-bytes c = search (rules, change_laws)

pub returns-clause-answer : goal.returns-clause-answer
returns-clause-answer c = search (rules, change_laws)

pub returns-clause-bytes : goal.returns-clause-bytes
returns-clause-bytes c = search (rules, change_laws)
