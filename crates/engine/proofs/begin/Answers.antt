use Rattle.engine.proofs.Answering.{open_laws}
use borrow.Author.Rules.{rules}
use Rattle.engine.proofs.begin.Goals as goal

pub peek-requires : goal.peek-requires
peek-requires c = search (rules, open_laws)

pub first-requires : goal.first-requires
first-requires c = search (rules, open_laws)

pub overflow_add-at : goal.overflow_add-at
overflow_add-at c = search (rules, open_laws)

pub run-requires : goal.run-requires
run-requires c = search (rules, open_laws)

pub opening-requires : goal.opening-requires
opening-requires c = search (rules, open_laws)

pub first-requires-else-peek-eq45 : goal.first-requires-else-peek-eq45
first-requires-else-peek-eq45 c = search (rules, open_laws)

pub opening-requires-else-peek-eq45 : goal.opening-requires-else-peek-eq45
opening-requires-else-peek-eq45 c = search (rules, open_laws)

pub returns-then-peek-eq45 : goal.returns-then-peek-eq45
returns-then-peek-eq45 c = search (rules, open_laws)

pub returns-else-peek-eq45 : goal.returns-else-peek-eq45
returns-else-peek-eq45 c = search (rules, open_laws)
