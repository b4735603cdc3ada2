use Prim.Native.Nat.{◌+◌, ◌-◌, ◌≤◌}
use mathlib.Core.Path.{◌≡◌}
use lib.ListN.{length, drop}
use lib.Seq.{sets}
use Rattle.access.specs.Contents.{unescaped}
use Rattle.access.proofs.content.copied.Given as goal

abbrev pub invariant-loop-i : goal.invariant-loop-i
invariant-loop-i l = (sets l.initial.buffer 0 (unescaped l.content) ≡ sets l.buffer l.n (unescaped (drop l.i l.content))) × (l.n + length (unescaped (drop l.i l.content)) ≤ length l.initial.buffer) × (length l.buffer ≡ length l.initial.buffer) × (l.n ≤ l.i)

abbrev pub decreases-loop-i : goal.decreases-loop-i
decreases-loop-i l = length l.content - l.i
