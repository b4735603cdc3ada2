use Rattle.text.proofs.AccountLaws.{short_laws}
use borrow.Author.Rules.{rules}
use Rattle.text.proofs.account.short_end.Goals as goal

pub returns-then-not-goes_on : goal.returns-then-not-goes_on
returns-then-not-goes_on c = search (rules, short_laws)

pub loop-i-preserved : goal.loop-i-preserved
loop-i-preserved c = search (rules, short_laws)

pub returns : goal.returns
returns c = search (rules, short_laws)
