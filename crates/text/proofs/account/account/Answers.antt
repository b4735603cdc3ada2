use Rattle.text.proofs.AccountLaws.{account_laws}
use borrow.Author.Rules.{rules}
use Rattle.text.proofs.account.account.Goals as goal

pub returns-then-first_part_end-end : goal.returns-then-first_part_end-end
returns-then-first_part_end-end c = search (rules, account_laws)

pub returns-then-starts_part : goal.returns-then-starts_part
returns-then-starts_part c = search (rules, account_laws)

pub returns-else-starts_part : goal.returns-else-starts_part
returns-else-starts_part c = search (rules, account_laws)

pub returns-else-at-s : goal.returns-else-at-s
returns-else-at-s c = search (rules, account_laws)
