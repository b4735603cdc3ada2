use Rattle.replay.proofs.DisplayLaws.{display_laws}
use borrow.Author.Rules.{rules}
use Rattle.replay.proofs.display.stepped.Goals as goal

pub returns-then-lent-b-clause-answer : goal.returns-then-lent-b-clause-answer
returns-then-lent-b-clause-answer c = search (rules, display_laws)

pub returns-then-lent-b-clause-bytes : goal.returns-then-lent-b-clause-bytes
returns-then-lent-b-clause-bytes c = search (rules, display_laws)

pub returns-clause-answer : goal.returns-clause-answer
returns-clause-answer c = search (rules, display_laws)

pub returns-clause-bytes : goal.returns-clause-bytes
returns-clause-bytes c = search (rules, display_laws)
