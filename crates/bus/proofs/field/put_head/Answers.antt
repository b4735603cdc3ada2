use lib.ListN.{length-set}
use native.Mathlib.Omega.{arith}
use Rattle.bus.proofs.FieldLaws.{put_laws}
use borrow.Author.Rules.{rules}
use Rattle.bus.proofs.field.put_head.Goals as goal

pub bounds-to-at-2 : goal.bounds-to-at-2
bounds-to-at-2 c = simp length-set (omega arith)

pub bounds-to-at-3 : goal.bounds-to-at-3
bounds-to-at-3 c = simp length-set (omega arith)

pub returns : goal.returns
returns c = search (rules, put_laws)
