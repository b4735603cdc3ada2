use Rattle.text.proofs.AccountLaws.{parts_laws}
use borrow.Author.Rules.{rules}
use Rattle.text.proofs.account.parts_end.Goals as goal

pub returns-then-n-lt-NONE : goal.returns-then-n-lt-NONE
returns-then-n-lt-NONE c = search (rules, parts_laws)

pub loop-i-preserved : goal.loop-i-preserved
loop-i-preserved c = search (rules, parts_laws)
