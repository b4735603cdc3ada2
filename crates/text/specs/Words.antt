-- Words: fixed byte strings, compared byte for byte at a place.
use Rattle.std.specs.Prelude.{ℕ, ◌+◌, Bool, true, false, cond, ◌&&◌, List, [], ◌∷◌, eqb, drop, length, None, Option, Some}

-- whether a text starts with a word
unfoldable pub starts_with : List ℕ → List ℕ → Bool
starts_with [] s = true
starts_with (w ∷ ws) [] = false
starts_with (w ∷ ws) (b ∷ s) = eqb b w && starts_with ws s

unfoldable pub word_at : List ℕ → List ℕ → ℕ → Option ℕ
word_at w s at = cond (starts_with w (drop at s)) (Some (at + length w)) None
