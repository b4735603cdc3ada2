-- Recovering reading's boundaries.
use Rattle.std.specs.Prelude.{ℕ, Bool, false, cond, ◌||◌, List, [], ◌∷◌, eqb, get_or}
use Prim.Native.Char.{code}
use Rattle.text.specs.Bytes.{is_digit, is_small}

-- A boundary is a line start whose byte is a digit or small letter.
abbrev pub is_start : ℕ → Bool
is_start b = is_digit b || is_small b

-- whether one stands between a byte and the next
abbrev pub cuts : ℕ → ℕ → Bool
cuts b next = cond (eqb b (code "\n")) (is_start next) false

-- whether a text holds one
unfoldable pub holds : List ℕ → Bool
holds [] = false
holds (b ∷ s) = cuts b (get_or s 0 0) || holds s
