use Rattle.walk.proofs.EntryTurns.{entry_laws}
use borrow.Author.Rules.{rules}
use Rattle.walk.proofs.step.entry_turn.Goals as goal

pub returns-then-s-at : goal.returns-then-s-at
returns-then-s-at c = search (rules, entry_laws)

pub returns-in_default : goal.returns-in_default
returns-in_default c = search (rules, entry_laws)

pub body_start-requires : goal.body_start-requires
body_start-requires c = search (rules, entry_laws, c.in-Ok.ensures)

pub overflow_add-body : goal.overflow_add-body
overflow_add-body c = search (rules, entry_laws, c.in-Ok.ensures)

pub returns-then-is_dated : goal.returns-then-is_dated
returns-then-is_dated c = search (rules, entry_laws)

pub overflow_add-next : goal.overflow_add-next
overflow_add-next c = search (rules, entry_laws, c.in-Ok.ensures)

pub returns : goal.returns
returns c = search (rules, entry_laws)
