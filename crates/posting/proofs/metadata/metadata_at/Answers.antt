use Rattle.row.proofs.ManyLaws.{runs_halt}
use Rattle.posting.proofs.MetaWrites.{meta_stepping, metadata_laws}
use borrow.Author.Rules.{rules}
use Rattle.posting.proofs.metadata.metadata_at.Goals as goal

pub loop-i-init : goal.loop-i-init
loop-i-init c = search (rules, metadata_laws)

pub loop-i-smaller : goal.loop-i-smaller
loop-i-smaller c = search (rules, metadata_laws)

pub loop-i-preserved : goal.loop-i-preserved
loop-i-preserved c = search (rules, metadata_laws)

pub returns-in-Err-Miss : goal.returns-in-Err-Miss
returns-in-Err-Miss c = search (rules, metadata_laws, c.in-Err-Miss.ensures)

pub returns-in-Err : goal.returns-in-Err
returns-in-Err c = let halt = runs_halt _ _ _ _ _ _ _ _ _ c.loop-i.invariant (meta_stepping _) _ _ c.meta_step.ensures in search (rules, halt)

pub returns : goal.returns
returns c = search (rules, metadata_laws)
