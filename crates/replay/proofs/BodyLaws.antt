-- The parts of a case's body lie in the buffers.
use Rattle.replay.specs.declared.compare.Alike.{Alike}
use Rattle.std.specs.Prelude.{Option}
use Prim.Native.Nat.{ℕ, ◌+◌, ◌-◌, ◌≤◌}
use native.Mathlib.Omega.{arith}
use mathlib.Core.Path.{◌≡◌, sym, ◌∙◌}
use mathlib.Core.Bool.{Bool, true}
use mathlib.Core.List.{List}
use borrow.Author.Tests.{leb-true}
use lib.Dec.{leb}
use lib.ListN.{length, take, drop, length-take, length-drop}
use lib.Seq.{length-take-le}
use Rattle.replay.specs.declared.call.Reply.{Reply}
use Rattle.replay.specs.declared.case.Case.{Case}
use Rattle.replay.specs.Verdicts.{verdict}

pub front_counts : (n : ℕ) (xs : List ℕ) → n ≤ length xs → n ≡ length (take n xs)
front_counts n xs h = sym (length-take-le n xs h)

pub first_counts : (n m : ℕ) (xs : List ℕ) → n + m ≤ length xs → n ≡ length (take n xs)
first_counts n m xs h = front_counts n xs (omega arith)

-- the second text ends where both do
pub second_cut : (v : Option Alike) (c : Case) (must : Reply) (s u t after : List ℕ) (n m : ℕ)
    → v ≡ verdict c must s (take (n + m - n) u) t after → v ≡ verdict c must s (take m u) t after
second_cut v c must s u t after n m e = let k : n + m - n ≡ m = omega arith in rw k at e

-- a spare buffer has room for what is lent
pub spare_holds : (n : ℕ) (xs ys : List ℕ) → n ≤ length xs → n ≤ length ys → length (take n xs) ≤ length ys
spare_holds n xs ys h l = rw (length-take-le n xs h) l

-- and so has one for the second text
pub second_holds : (n m : ℕ) (xs ys : List ℕ) → n + m ≤ length xs → m ≤ length ys → length (take (n + m - n) (drop n xs)) ≤ length ys
second_holds n m xs ys h l = let k : n + m - n ≡ m = omega arith in rw (k, length-take, length-drop) (omega arith)

pub ruleset body_laws = (front_counts, first_counts, second_cut, spare_holds, second_holds)

-- what the header's limit says
pub within_limit : (n m t : ℕ) (r : Bool) → r ≡ leb (56 + n + m + t + t) 65536 → r ≡ true → 56 + n + m + t + t ≤ 65536
within_limit n m t r e h = leb-true _ _ (sym e ∙ h)

pub ruleset next_laws = (within_limit)
