use native.Mathlib.Omega.{arith}
use mathlib.Core.Path.{refl}
use Rattle.replay.proofs.AfreshLaws.{afresh_left, afresh_told}
use Rattle.replay.proofs.afresh.rewritten.Goals as goal

pub returns : goal.returns
returns c =
    let a = c.args in
    let t = c.lumbrisse_write-r.new.output in
    let v = c.lumbrisse_write-r.new.work in
    let kept = c.lumbrisse_write-r.auto in
    let x = c.copy_part.ensures in
    let p = c.lumbrisse_write-r.ensures in record {
      answer = afresh_told a.c _ a.second.now _ _ refl _ _ v t x _ p (omega (arith, kept)) _ c.is_wiped-kept.ensures _ c.of_spaced.ensures;
      bytes = afresh_left a.c _ a.second.now _ _ refl _ _ v t x _ p;
    }
