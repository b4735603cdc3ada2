use native.Mathlib.Omega.{arith}
use mathlib.Core.Path.{refl}
use Rattle.amount.specs.Expression.{expression_in}
use Rattle.engine.proofs.Keeping.{turn_laws, less_operand, less_done, less_group, kept_operand, kept_done, kept_group}
use borrow.Author.Rules.{rules}
use Rattle.engine.proofs.evaluate.Goals as goal

pub start-next-requires : goal.start-next-requires
start-next-requires c = search (rules, turn_laws)

pub enum_known-next : goal.enum_known-next
enum_known-next c = search (rules, turn_laws)

pub returns-in-Done : goal.returns-in-Done
unfolding expression_in
returns-in-Done c = search (rules, turn_laws)

pub first-frames-requires : goal.first-frames-requires
first-frames-requires c = search (rules, turn_laws)

pub loop-next-init : goal.loop-next-init
loop-next-init c = search (rules, turn_laws)

pub enum_known-next-in-Start-next-2 : goal.enum_known-next-in-Start-next-2
enum_known-next-in-Start-next-2 c = search (rules, turn_laws)

pub start-next-requires-in-Start : goal.start-next-requires-in-Start
start-next-requires-in-Start c = search (rules, turn_laws)

pub loop-next-smaller-in-Start : goal.loop-next-smaller-in-Start
loop-next-smaller-in-Start c = search (rules, turn_laws)

pub loop-next-preserved-in-Start : goal.loop-next-preserved-in-Start
loop-next-preserved-in-Start c = search (rules, turn_laws)

pub enum_known-next-in-Operand-1 : goal.enum_known-next-in-Operand-1
enum_known-next-in-Operand-1 c = search (rules, turn_laws)

pub operand-next-requires : goal.operand-next-requires
operand-next-requires c = search (rules, turn_laws)

pub loop-next-smaller-in-Operand : goal.loop-next-smaller-in-Operand
loop-next-smaller-in-Operand c = less_operand _ _ _ _ _ _ c.loop-next.invariant _ _ _ c.in-Operand.is c.operand-next.ensures

pub loop-next-preserved-in-Operand : goal.loop-next-preserved-in-Operand
loop-next-preserved-in-Operand c = kept_operand _ _ _ _ _ _ c.loop-next.invariant _ _ _ c.in-Operand.is c.operand-next.ensures

pub enum_known-next-in-Group-1 : goal.enum_known-next-in-Group-1
enum_known-next-in-Group-1 c = search (rules, turn_laws)

pub returns-then-depth-ge-GROUPS : goal.returns-then-depth-ge-GROUPS
unfolding expression_in
returns-then-depth-ge-GROUPS c = search (rules, turn_laws)

pub offset_bounds-frames-depth : goal.offset_bounds-frames-depth
offset_bounds-frames-depth c = search (rules, turn_laws)

pub bounds-frames-depth : goal.bounds-frames-depth
bounds-frames-depth c = search (rules, turn_laws)

pub overflow_add-depth : goal.overflow_add-depth
overflow_add-depth c = search (rules, turn_laws)

pub overflow_add-p : goal.overflow_add-p
overflow_add-p c = search (rules, turn_laws)

pub run-requires : goal.run-requires
run-requires c = search (rules, turn_laws)

pub loop-next-smaller-in-Group : goal.loop-next-smaller-in-Group
loop-next-smaller-in-Group c = less_group _ _ _ _ _ _ c.loop-next.invariant _ _ c.run.result c.in-Group.is (search rules)

pub loop-next-preserved-in-Group : goal.loop-next-preserved-in-Group
loop-next-preserved-in-Group c = kept_group _ _ _ _ _ _ c.loop-next.invariant _ _ c.run.result _ c.in-Group.is (omega arith) refl (search rules)

pub enum_known-next-in-Done-next-2 : goal.enum_known-next-in-Done-next-2
enum_known-next-in-Done-next-2 c = search (rules, turn_laws)

pub returns-then-depth-eq0 : goal.returns-then-depth-eq0
unfolding expression_in
returns-then-depth-eq0 c = search (rules, turn_laws)

pub overflow_sub-depth : goal.overflow_sub-depth
overflow_sub-depth c = search (rules, turn_laws)

pub offset_bounds-frames-depth-in-Done-next : goal.offset_bounds-frames-depth-in-Done-next
offset_bounds-frames-depth-in-Done-next c = search (rules, turn_laws)

pub bounds-frames-depth-in-Done-next : goal.bounds-frames-depth-in-Done-next
bounds-frames-depth-in-Done-next c = search (rules, turn_laws)

pub shut-next-requires : goal.shut-next-requires
shut-next-requires c = search (rules, turn_laws)

pub loop-next-smaller : goal.loop-next-smaller
loop-next-smaller c = less_done _ _ _ _ _ _ c.loop-next.invariant _ _ _ _ c.in-Done-next.is c.shut-next.ensures

pub loop-next-preserved : goal.loop-next-preserved
loop-next-preserved c = kept_done _ _ _ _ _ _ c.loop-next.invariant _ _ _ _ c.in-Done-next.is c.if-depth-eq0.false (search rules) c.shut-next.ensures

pub enum_known-next-in-Missed-1 : goal.enum_known-next-in-Missed-1
enum_known-next-in-Missed-1 c = search (rules, turn_laws)

pub fallen-requires : goal.fallen-requires
fallen-requires c = search (rules, turn_laws)

pub returns-then-depth-eq0-2 : goal.returns-then-depth-eq0-2
unfolding expression_in
returns-then-depth-eq0-2 c = search (rules, turn_laws)

pub bounds-frames-0 : goal.bounds-frames-0
bounds-frames-0 c = search (rules, turn_laws)

pub fallen-requires-in-Missed : goal.fallen-requires-in-Missed
fallen-requires-in-Missed c = search (rules, turn_laws)

pub returns-in-Missed : goal.returns-in-Missed
unfolding expression_in
returns-in-Missed c = search (rules, turn_laws)
