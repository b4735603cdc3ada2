use Rattle.text.proofs.PermittedLaws.{clean_laws}
use borrow.Author.Rules.{rules}
use Rattle.text.proofs.permitted.clean_to.Goals as goal

pub returns-then-not-may_stand : goal.returns-then-not-may_stand
returns-then-not-may_stand c = search (rules, clean_laws)

pub loop-i-preserved : goal.loop-i-preserved
loop-i-preserved c = search (rules, clean_laws)
