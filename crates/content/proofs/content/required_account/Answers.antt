use Rattle.content.proofs.ContentLaws.{account_laws}
use borrow.Author.Rules.{rules}
use Rattle.content.proofs.content.required_account.Goals as goal

pub returns-in_err-e : goal.returns-in_err-e
returns-in_err-e c = search (rules, account_laws, c.in_err-e.was)

pub returns : goal.returns
returns c = search (rules, account_laws, c.in_ok-e.was)
