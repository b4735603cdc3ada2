use Rattle.bus.proofs.FoundLaws.{due_laws}
use borrow.Author.Rules.{rules}
use Rattle.bus.proofs.packet.is_row.Goals as goal

pub returns : goal.returns
returns c = search (rules, due_laws)
