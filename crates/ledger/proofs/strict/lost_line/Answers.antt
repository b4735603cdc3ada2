use Rattle.ledger.proofs.StrictCode.{lost_line_laws}
use borrow.Author.Rules.{rules}
use Rattle.ledger.proofs.strict.lost_line.Goals as goal

pub returns-then-is_digit : goal.returns-then-is_digit
returns-then-is_digit c = search (rules, lost_line_laws)

pub returns-then-stray : goal.returns-then-stray
returns-then-stray c = search (rules, lost_line_laws)

pub returns : goal.returns
returns c = search (rules, lost_line_laws)
