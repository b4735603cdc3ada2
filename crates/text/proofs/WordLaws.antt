-- The answers at a word, from what is left of the text at its place.
use Rattle.std.specs.Prelude.{None, Some}
use Rattle.std.specs.List as std
use Rattle.std.proofs.lemmas.Slice.{between_to_end}
use Prim.Native.Nat.{ℕ, ◌+◌, ◌≤◌, ◌<◌, min}
use native.Mathlib.Decide.{dec_lt}
use native.Mathlib.Omega.{arith}
use mathlib.Core.Path.{◌≡◌, refl, sym, ap, ◌∙◌}
use mathlib.Core.Bool.{Bool, true, false}
use mathlib.Core.List.{List, [], ◌∷◌}
use borrow.Author.Tests.{eq-eqb, ne_eqb, eqb-true, eqb-false}
use lib.Dec.{eqb}
use lib.ListN.{length, drop, get_or, drop_of_length-le}
use Rattle.text.specs.Words.{starts_with, word_at}
use Rattle.text.proofs.Steps.{head_drop}

-- what is left at a place: nothing past the end
pub rest_is : (s : List ℕ) (at : ℕ) → std.slice_range s (min at (length s)) (length s) ≡ drop at s
rest_is s at =
    between_to_end s (min at (length s)) (length s) (omega arith) ∙ elim (dec_lt at (length s)) [
      | yes h ↦ let e : min at (length s) ≡ at = omega arith in rw e refl
      | no h ↦ rw (past (min at (length s)) (omega arith), past at (omega arith))
    ]
  where
    past : (i : ℕ) → length s ≤ i → drop i s ≡ []
    past i h = drop_of_length-le s h

-- a word's byte, and a text's, compared in either order
same_head : (w b : ℕ) → eqb w b ≡ eqb b w
same_head w b = go (eqb w b) refl
  where
    go : (t : Bool) → eqb w b ≡ t → t ≡ eqb b w
    go true e = sym (eq-eqb b w (sym (eqb-true w b e)))
    go false e = sym (ne_eqb b w (λ f. eqb-false w b e (sym f)))

-- a text starts with a word as the library tells it
same_start : (w s : List ℕ) → std.starts_with eqb s w ≡ starts_with w s
unfolding starts_with
same_start [] s = refl
same_start (w ∷ ws) [] = refl
same_start (w ∷ ws) (b ∷ s) = rw (same_start ws s, same_head w b)

module _ (s w rest : List ℕ) (at : ℕ) (e : rest ≡ drop at s) (t : Bool) (u : t ≡ std.starts_with eqb rest w) where
  pub word_stands : t ≡ true → Some (at + length w) ≡ word_at w s at
  unfolding word_at
  word_stands v = rw (← same_start w (drop at s), ← e, ← u, v)

  pub word_differs : t ≡ false → None ≡ word_at w s at
  unfolding word_at
  word_differs v = rw (← same_start w (drop at s), ← e, ← u, v)

-- a word whose first byte is another
module _ (s w : List ℕ) (at : ℕ) (f : get_or s at 0 ≡ get_or w 0 0 → ⊥) where
  other_first : (ws r : List ℕ) → get_or s at 0 ≡ get_or r 0 0 → w ≡ ws → 0 < length ws → starts_with ws r ≡ false
  unfolding starts_with
  other_first [] r e q l = absurd (omega arith)
  other_first (c ∷ ws) [] e q l = refl
  other_first (c ∷ ws) (b ∷ r) e q l = rw (ne_eqb b c (λ g. f (e ∙ g ∙ sym (ap (λ (x : List ℕ). get_or x 0 0) q)))) refl

  pub word_other : 0 < length w → None ≡ word_at w s at
  unfolding word_at
  word_other l = rw (other_first w (drop at s) (sym (head_drop s at)) refl l)

pub ruleset word_laws = (rest_is, word_stands, word_differs, word_other)
