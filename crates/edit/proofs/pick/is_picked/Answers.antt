use Rattle.edit.proofs.PickLaws.{pick_laws}
use borrow.Author.Rules.{rules}
use Rattle.edit.proofs.pick.is_picked.Goals as goal

pub returns-then-p : goal.returns-then-p
returns-then-p c = search (rules, pick_laws)

pub returns : goal.returns
returns c = search (rules, pick_laws)
