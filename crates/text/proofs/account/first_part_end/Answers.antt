use Rattle.text.proofs.AccountLaws.{first_laws}
use borrow.Author.Rules.{rules}
use Rattle.text.proofs.account.first_part_end.Goals as goal

pub bounds-s-i : goal.bounds-s-i
bounds-s-i c = search (rules, first_laws)

pub returns-then-s-i-eq58 : goal.returns-then-s-i-eq58
returns-then-s-i-eq58 c = search (rules, first_laws)

pub loop-i-preserved : goal.loop-i-preserved
loop-i-preserved c = search (rules, first_laws)

pub returns : goal.returns
returns c = search (rules, first_laws)
