-- Longest runs.
use Rattle.std.specs.Prelude.{ℕ, ◌+◌, Bool, cond, List, [], ◌∷◌, drop}
use Rattle.text.specs.Bytes.{is_blank}

-- the end of the longest run of bytes for which p holds, in a text that starts at place i
unfoldable pub run_from : (ℕ → Bool) → List ℕ → ℕ → ℕ
run_from p [] i = i
run_from p (b ∷ s) i = cond (p b) (run_from p s (i + 1)) i

-- the same from place at of a text on
unfoldable pub run_to : (ℕ → Bool) → List ℕ → ℕ → ℕ
run_to p s at = run_from p (drop at s) at

-- past the blanks
abbrev pub blanks : List ℕ → ℕ → ℕ
blanks s at = run_to is_blank s at
