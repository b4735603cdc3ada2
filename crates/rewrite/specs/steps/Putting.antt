-- Bytes put at a place where there is room for all of them; the next place, which stays at the largest number.
use Rattle.std.specs.Prelude.{ℕ, ◌+◌, ◌≤◌, min, ◌≡◌, cond, List, [], ◌∷◌, ◌++◌, eqb, length, take}
use Prim.Native.Char.{code}
use Rattle.std.proofs.lemmas.List.Edits.{sets}
use Rattle.decimal.specs.Exact.{largest}
use Rattle.layout.specs.Written.{zeros, trimmed, date_text}

-- u is t with xs put from at on, and r the place behind them
pub record Put (t : List ℕ) (at : ℕ) (xs u : List ℕ) (r : ℕ) : Type 0 where
  pub bytes : at + length xs ≤ length t → length t ≤ largest → u ≡ sets t at xs
  pub next : at ≤ largest → r ≡ min (at + length xs) largest
  pub same : length u ≡ length t

-- so many digits are left without trailing zeros
pub record Kept (d : List ℕ) (n : ℕ) : Type 0 where
  pub front : trimmed d ≡ take n d
  pub none : zeros d ≡ eqb n 0

-- what closes a cost, by the number of its date
unfoldable pub ended : List ℕ → ℕ → List ℕ
ended sep n = cond (eqb n 0) (code "}" ∷ []) (sep ++ (date_text n ++ (code "}" ∷ [])))
