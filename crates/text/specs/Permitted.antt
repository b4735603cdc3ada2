-- Refusal 1: a ledger over 16,777,216 bytes.
-- Refusal 2: a byte other than 9, 10, 32 to 126, or 13 directly before 10; its place is the first such byte.
use Rattle.std.specs.Prelude.{ℕ, suc, Bool, true, false, cond, List, [], ◌∷◌, leb, eqb, get_or}

-- a ledger's bytes at the most
abbrev pub size_limit : ℕ
size_limit = 16777216

-- a byte that a ledger may hold, by the byte after it
unfoldable pub permitted : ℕ → ℕ → Bool
permitted b next = cond (leb 32 b) (leb b 126) (cond (eqb b 9) true (cond (eqb b 10) true (cond (eqb b 13) (eqb next 10) false)))

-- how many bytes stand before the first that a ledger may not hold
unfoldable pub clean : List ℕ → ℕ
clean [] = 0
clean (b ∷ s) = cond (permitted b (get_or s 0 0)) (suc (clean s)) 0
