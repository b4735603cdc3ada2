use Rattle.edit.proofs.PickLaws.{putting_laws}
use borrow.Author.Rules.{rules}
use Rattle.edit.proofs.pick.put.Goals as goal

pub loop-row-init : goal.loop-row-init
loop-row-init c = search (rules, putting_laws)

pub loop-row-preserved : goal.loop-row-preserved
loop-row-preserved c = search (rules, putting_laws)

pub returns : goal.returns
returns c = search (rules, putting_laws)
