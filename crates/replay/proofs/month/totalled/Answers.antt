use Prim.Native.Nat.{◌≤◌}
use native.Mathlib.Omega.{arith}
use mathlib.Core.Path.{refl}
use lib.ListN.{length}
use Rattle.replay.proofs.MonthLaws.{totals_left, totals_told, month_laws}
use borrow.Author.Rules.{rules}
use Rattle.replay.proofs.month.totalled.Goals as goal

pub returns-then-second-n-clause-answer : goal.returns-then-second-n-clause-answer
returns-then-second-n-clause-answer c = search (rules, month_laws)

pub returns-then-second-n-clause-bytes : goal.returns-then-second-n-clause-bytes
returns-then-second-n-clause-bytes c = search (rules, month_laws)

pub returns : goal.returns
returns c =
    let a = c.args in
    let h : a.c.c ≤ length a.second.now = c.if-second-n.false in
    let v = c.lumbrisse_totals-r.new.work in
    let w = c.lumbrisse_totals-r.new.spare in
    let t = c.lumbrisse_totals-r.new.items in
    let kept = c.lumbrisse_totals-r.auto in
    let x = c.copy_part.ensures in
    let y = c.copy_part-2.ensures in
    let p = c.lumbrisse_totals-r.ensures in record {
      answer = totals_told a.c _ a.second.now _ h _ refl _ _ _ _ v w t x y _ p (omega (arith, kept)) (omega (arith, kept)) _ c.is_kept-kept.ensures _ c.of_spaced.ensures;
      bytes = totals_left a.c _ a.second.now _ h _ refl _ _ _ _ v w t x y _ p;
    }
