-- The numbers of a span, by what the code's test of it gave.
use Prim.Native.Nat.{ℕ, ◌-◌}
use mathlib.Core.Path.{◌≡◌}
use mathlib.Core.Bool.{Bool, true, false}
use mathlib.Core.List.{List}
use Rattle.access.specs.Spans.{good_span}
use Rattle.access.proofs.SpanLaws.{good_start, text_good, text_bad}
use Rattle.lumbrisse.specs.Numbers.{part_of}

module _ (s : List ℕ) (a e : ℕ) (q : Bool) (v : q ≡ good_span s a e) where
  pub good_part : q ≡ true → record { start = a; length = e - a } ≡ part_of s a e
  unfolding part_of
  good_part t = rw (← v, t)

  pub bad_part : q ≡ false → record { start = 0; length = 0 } ≡ part_of s a e
  unfolding part_of
  bad_part t = rw (← v, t)

pub ruleset part_laws = (good_part, bad_part, good_start, text_good, text_bad)
