use Rattle.edit.proofs.PickLaws.{put_laws}
use borrow.Author.Rules.{rules}
use borrow.Author.Rules.{rules}
use Rattle.edit.proofs.pick.put_one.Goals as goal

pub returns-then-is_picked : goal.returns-then-is_picked
returns-then-is_picked c = search (rules, put_laws)

pub returns : goal.returns
returns c = search (rules, put_laws)
