use Rattle.bus.proofs.FoundLaws.{tag_laws}
use borrow.Author.Rules.{rules}
use Rattle.bus.proofs.packet.row_tag.Goals as goal

pub returns-then-kind-lt-FIRST_DETAIL : goal.returns-then-kind-lt-FIRST_DETAIL
returns-then-kind-lt-FIRST_DETAIL c = search (rules, tag_laws)

pub returns-else-kind-lt-FIRST_DETAIL : goal.returns-else-kind-lt-FIRST_DETAIL
returns-else-kind-lt-FIRST_DETAIL c = search (rules, tag_laws)
