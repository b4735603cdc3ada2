use Rattle.edit.proofs.PickLaws.{pick_laws}
use borrow.Author.Rules.{rules}
use borrow.Author.Rules.{rules}
use Rattle.edit.proofs.pick.one_picked.Goals as goal

pub returns-then-is_picked : goal.returns-then-is_picked
returns-then-is_picked c = search (rules, pick_laws)

pub returns-else-is_picked : goal.returns-else-is_picked
returns-else-is_picked c = search (rules, pick_laws)
