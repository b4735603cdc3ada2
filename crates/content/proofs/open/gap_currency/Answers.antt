use Rattle.content.proofs.OpenLaws.{gap_currency_laws}
use borrow.Author.Rules.{rules}
use Rattle.content.proofs.open.gap_currency.Goals as goal

pub returns-in_err-j : goal.returns-in_err-j
returns-in_err-j c = search (rules, gap_currency_laws, c.in_err-j.was)

pub returns : goal.returns
returns c = search (rules, gap_currency_laws, c.in_ok-j.was)
