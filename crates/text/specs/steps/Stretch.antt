-- Refusal 2, looked for part by part.
use Rattle.std.specs.Prelude.{ℕ, ◌+◌, Bool, true, ◌&&◌, ◌||◌, List, [], ◌∷◌, leb, eqb, drop}
use Rattle.text.specs.Permitted.{clean}

-- where the bytes from a place on that a ledger may hold end
abbrev pub clean_end : List ℕ → ℕ → ℕ
clean_end s at = at + clean (drop at s)

-- a byte that a ledger may hold whatever follows it
unfoldable pub is_plain : ℕ → Bool
is_plain b = leb 32 b && leb b 126 || eqb b 10 || eqb b 9

unfoldable pub all_plain : List ℕ → Bool
all_plain [] = true
all_plain (b ∷ s) = is_plain b && all_plain s
