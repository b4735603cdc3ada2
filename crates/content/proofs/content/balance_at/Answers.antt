use Rattle.content.proofs.BalanceLaws.{balance_laws}
use borrow.Author.Rules.{rules}
use Rattle.content.proofs.content.balance_at.Goals as goal

pub returns-in_err-e : goal.returns-in_err-e
returns-in_err-e c = search (rules, balance_laws, c.in_err-e.was)

pub gap_balance-requires : goal.gap_balance-requires
gap_balance-requires c = search (rules, balance_laws, c.in_ok-e.was)

pub returns : goal.returns
returns c = search (rules, balance_laws, c.in_ok-e.was)
