-- The answers on spans, from what the code's test of a span gave.
use Prim.Native.Nat.{ℕ, ◌-◌, ◌≤◌}
use mathlib.Core.Path.{◌≡◌, sym, ◌∙◌}
use mathlib.Core.Bool.{Bool, true, false}
use mathlib.Core.List.{List, []}
use borrow.Author.Tests.{leb-true}
use lib.Dec.{leb}
use lib.ListN.{length, take, drop}
use Rattle.text.proofs.TestLaws.{and_left, and_right}
use Rattle.access.specs.Spans.{good_span, span_text}

module _ (s : List ℕ) (a e : ℕ) (r : Bool) (v : r ≡ good_span s a e) where
  pub good_start : r ≡ true → a ≤ e
  unfolding good_span
  good_start t = leb-true a e (and_left (leb a e) (leb e (length s)) (sym v ∙ t))

  pub good_end : r ≡ true → e ≤ length s
  unfolding good_span
  good_end t = leb-true e (length s) (and_right (leb a e) (leb e (length s)) (sym v ∙ t))

  pub text_good : r ≡ true → take (e - a) (drop a s) ≡ span_text s a e
  unfolding span_text
  text_good t = rw (← v, t)

  pub text_bad : r ≡ false → [] ≡ span_text s a e
  unfolding span_text
  text_bad t = rw (← v, t)

pub ruleset span_laws = (good_start, good_end, text_good, text_bad)
