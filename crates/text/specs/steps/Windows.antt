-- Longest runs, looked for a window at a time.
use Rattle.std.specs.Prelude.{ℕ, zero, suc, min, Bool, cond, ◌&&◌, ◌||◌, leb, eqb}
use Prim.Native.Char.{code}
use Rattle.text.specs.Bytes.{starts_part, in_account}

-- the first of n places at which a run stops, or none: p says at which of them it goes on
unfoldable pub first_stop : (ℕ → Bool) → ℕ → ℕ → ℕ
first_stop p none zero = none
first_stop p none (suc n) = min (first_stop p none n) (cond (p n) none n)

-- a capital, digit, `-`, `_`, one of two marks, or a small letter from a given one on
unfoldable pub is_among : ℕ → ℕ → ℕ → ℕ → Bool
is_among small x y b = starts_part b || (leb small b && leb b (code "z")) || eqb b (code "-") || eqb b (code "_") || eqb b x || eqb b y

-- a byte of an account, or `:` before the start of a part
unfoldable pub goes_on : ℕ → ℕ → Bool
goes_on b next = in_account b || (eqb b (code ":") && starts_part next)
