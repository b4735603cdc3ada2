use Rattle.text.proofs.ByteLaws.{class_laws}
use borrow.Author.Rules.{rules}
use Rattle.text.proofs.bytes.in_currency.Goals as goal

pub returns-then-is_capital : goal.returns-then-is_capital
returns-then-is_capital c = search (rules, class_laws)

pub returns : goal.returns
returns c = search (rules, class_laws)
