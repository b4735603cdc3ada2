use Prim.Native.Nat.{◌/◌}
use mathlib.Core.Path.{refl}
use native.Mathlib.Omega.{arith}
use borrow.Author.Rules.{rules}
use Rattle.order.specs.steps.Buffers.{record_room}
use Rattle.order.proofs.HalfLaws.{few_sorted, halves}
use Rattle.order.proofs.sort.+sort_part.Goals as goal

pub returns-then-n-lt2 : goal.returns-then-n-lt2
returns-then-n-lt2 t c = search (rules, few_sorted)

pub returns : goal.returns
returns t c =
    halves _ c.args.t.now _ _ _ _ _ _ _ _ (record_room c.args.t.now / 2) (omega arith) c.sort_part.ensures refl c.sort_part-2.ensures refl c.merge.ensures c.copy_over.ensures refl
