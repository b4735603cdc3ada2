use Rattle.bus.proofs.RowsLaws.{put_laws, put_here, put_next}
use native.Mathlib.Omega.{arith}
use borrow.Author.Rules.{rules}
use Rattle.bus.proofs.writer.put_rows.Goals as goal

pub put_row-at-requires : goal.put_row-at-requires
put_row-at-requires c = put_here _ _ _ _ _ _ _ _ c.loop-k.invariant (omega arith)

pub loop-k-preserved : goal.loop-k-preserved
loop-k-preserved c = put_next _ _ _ _ _ _ _ c.loop-k.invariant c.loop-k-test.true _ _ c.put_row-at.ensures.place c.put_row-at.ensures.bytes

pub returns : goal.returns
returns c = search (rules, put_laws)
