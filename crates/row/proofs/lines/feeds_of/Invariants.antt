use Prim.Native.Nat.{◌+◌}
use mathlib.Core.Path.{◌≡◌}
use Rattle.std.specs.Slice.Iter.{chunks_rest, chunks_size}
use Rattle.row.specs.Row.{feeds}
use Rattle.row.proofs.lines.feeds_of.Given as goal

abbrev pub invariant-loop-part : goal.invariant-loop-part
invariant-loop-part l = goal.iterator-loop-part.can_next l.part-iterator × goal.iterator-loop-part.is_finite l.part-iterator × (chunks_size l.part-iterator ≡ 240)
    × (l.n + feeds (chunks_rest l.part-iterator) ≡ feeds l.s)
