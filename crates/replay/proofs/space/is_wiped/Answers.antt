use Rattle.replay.proofs.SpaceLaws.{wiped_laws}
use borrow.Author.Rules.{rules}
use Rattle.replay.proofs.space.is_wiped.Goals as goal

pub returns-then-before-d : goal.returns-then-before-d
returns-then-before-d c = search (rules, wiped_laws)

pub returns-then-after-d : goal.returns-then-after-d
returns-then-after-d c = search (rules, wiped_laws)

pub returns-then-is_zero : goal.returns-then-is_zero
returns-then-is_zero c = search (rules, wiped_laws)

pub returns : goal.returns
returns c = search (rules, wiped_laws)
