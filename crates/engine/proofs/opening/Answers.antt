use Rattle.engine.proofs.Answering.{open_laws}
use borrow.Author.Rules.{rules}
use Rattle.engine.proofs.opening.Goals as goal

pub peek-requires : goal.peek-requires
peek-requires c = search (rules, open_laws)

pub returns-then-peek-eq40 : goal.returns-then-peek-eq40
returns-then-peek-eq40 c = search (rules, open_laws)

pub returns-else-peek-eq40 : goal.returns-else-peek-eq40
returns-else-peek-eq40 c = search (rules, open_laws)
