use Rattle.edit.proofs.PickLaws.{as_laws}
use borrow.Author.Rules.{rules}
use borrow.Author.Rules.{rules}
use Rattle.edit.proofs.pick.moved_if.Goals as goal

pub returns-then-behind : goal.returns-then-behind
returns-then-behind c = search (rules, as_laws)
