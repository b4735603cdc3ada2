use Rattle.text.proofs.AccountLaws.{goes_on_lem}
use borrow.Author.Rules.{rules}
use Rattle.text.proofs.account.goes_on.Goals as goal

pub returns : goal.returns
returns c = search (rules, goes_on_lem)
