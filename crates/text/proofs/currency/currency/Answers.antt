use Rattle.text.proofs.CurrencyLaws.{currency_laws}
use borrow.Author.Rules.{rules}
use Rattle.text.proofs.currency.currency.Goals as goal

pub overflow_add-c : goal.overflow_add-c
overflow_add-c c = search (rules, currency_laws)

pub returns-then-starts_part : goal.returns-then-starts_part
returns-then-starts_part c = search (rules, currency_laws)

pub returns-then-in_currency : goal.returns-then-in_currency
returns-then-in_currency c = search (rules, currency_laws)

pub returns-then-is_capital : goal.returns-then-is_capital
returns-then-is_capital c = search (rules, currency_laws)

pub returns-else-is_capital : goal.returns-else-is_capital
returns-else-is_capital c = search (rules, currency_laws)

pub returns-else-at-s : goal.returns-else-at-s
returns-else-at-s c = search (rules, currency_laws)
