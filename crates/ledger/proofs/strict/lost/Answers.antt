use Rattle.ledger.proofs.StrictCode.{lost_laws}
use borrow.Author.Rules.{rules}
use Rattle.ledger.proofs.strict.lost.Goals as goal

pub returns-then-lost_line : goal.returns-then-lost_line
returns-then-lost_line c = search (rules, lost_laws)

pub returns : goal.returns
returns c = search (rules, lost_laws)
