-- M-106. Rounding to the nearest whole number, of two that are equally near to the even one. `nearest` works it out;
-- `Nearest` says what it is, by distances alone. `proofs/Nearness.antt` shows that `nearest` is nearest, and that no
-- other number is.
use Rattle.std.specs.Prelude.{ℕ, suc, ◌+◌, ◌*◌, ◌/◌, ◌%◌, ◌≤◌, ◌≡◌, cond, ltb, ℤ, pos, negsuc, neg_ℤ, nat_abs, ◌-ℤ◌, ◌*ℤ◌}

-- how far q is from z / d, in parts of which d make one
abbrev pub distance : ℤ → ℕ → ℤ → ℕ
distance z d q = nat_abs (z -ℤ q *ℤ pos d)

-- no whole number is nearer to z / d than q; where another one is as near, q is even
pub record Nearest (z : ℤ) (d : ℕ) (q : ℤ) : Type 0 where
  pub none_nearer : (k : ℤ) → distance z d q ≤ distance z d k
  pub tie_even : (k : ℤ) → distance z d k ≡ distance z d q → (k ≡ q → ⊥) → nat_abs q % 2 ≡ 0

-- a quotient q with the rest r over d, rounded: by whether the rest is under a half, over it, or just a half
unfoldable pub rounded_of : ℕ → ℕ → ℕ → ℕ
rounded_of q r d = q + cond (ltb (2 * r) d) 0 (cond (ltb d (2 * r)) 1 (q % 2))

-- n / d rounded
unfoldable pub nearest_size : ℕ → ℕ → ℕ
nearest_size n d = rounded_of (n / d) (n % d) d

-- z / d rounded: below zero as above it
unfoldable pub nearest : ℤ → ℕ → ℤ
nearest (pos n) d = pos (nearest_size n d)
nearest (negsuc n) d = neg_ℤ (pos (nearest_size (suc n) d))
