use Rattle.order.proofs.MergeLaws.{merge_laws, left_there, right_there, turn_left, turn_right}
use native.Mathlib.Omega.{arith}
use borrow.Author.Rules.{rules}
use Rattle.order.proofs.sort.merge.Goals as goal
use Rattle.order.proofs.sort.merge.Goals.{then-left_first, else-left_first}

pub copy_record-requires : goal.copy_record-requires
copy_record-requires c =
    let there = left_there _ _ _ _ _ _ _ _ c.loop-k.invariant _ c.left_first.ensures c.loop-k-test.true c.requires.0 c.if-left_first.true in
    (there, omega arith)

pub copy_record-requires-else-left_first : goal.copy_record-requires-else-left_first
copy_record-requires-else-left_first c =
    let there = right_there _ _ _ _ _ _ _ _ c.loop-k.invariant _ c.left_first.ensures c.loop-k-test.true c.if-left_first.false in
    (there, omega arith)

pub loop-k-preserved : goal.loop-k-preserved
loop-k-preserved c =
    elim c.if-left_first.branch [
      | then-left_first w ↦ rw (w.u-is, w.i-is, w.j-is)
          (turn_left _ _ _ _ _ _ _ _ c.loop-k.invariant _ c.left_first.ensures c.loop-k-test.true c.requires.0 c.requires.1 _
          w.if-left_first.true w.copy_record.ensures)
      | else-left_first w ↦ rw (w.u-is, w.i-is, w.j-is)
          (turn_right _ _ _ _ _ _ _ _ c.loop-k.invariant _ c.left_first.ensures c.loop-k-test.true c.requires.0 c.requires.1 _
          w.if-left_first.false w.copy_record-else-left_first.ensures)
    ]

pub returns : goal.returns
returns c = search (rules, merge_laws)
