-- M-106: `nearest` is nearest, and no other whole number is.
use Prim.Native.Nat.{ℕ, zero, suc, ◌+◌, ◌-◌, ◌*◌, ◌/◌, ◌%◌, ◌≤◌, ◌<◌}
use mathlib.Core.Path.{◌≡◌, refl, sym, ap, ◌∙◌}
use mathlib.Core.Bool.{Bool, true, false, cond}
use native.Mathlib.Omega.{arith}
use native.Mathlib.Nat.{add-mul, mul-le-mul_right, zero-mul, div-add-mod', mod-lt}
use native.Mathlib.Decide.{dec_lt, ℕ_discrete}
use lib.Dec.{ltb}
use lib.IntN.{ℤ, pos, negsuc, nat_abs, sub_ℕ, ◌-ℤ◌}
use borrow.Author.Tests.{lt-ltb, le-ltb, ltb-true, ltb-false}
use Rattle.decimal.specs.Rounding.{distance, Nearest, rounded_of, nearest_size, nearest}
use Rattle.decimal.specs.Exact.{sized, value_in, RoundsToNearest}
use Rattle.decimal.specs.steps.Judged.{differ}
use Rattle.decimal.proofs.Whole.{times_sized}

-- ---- of sizes

-- how far apart two sizes are
abbrev apart : ℕ → ℕ → ℕ
apart m n = (m - n) + (n - m)

-- q is at most half from n / d, and even where it is just half from it
record Near (n d q : ℕ) : Type 0 where
  half : 2 * apart n (q * d) ≤ d
  even : 2 * apart n (q * d) ≡ d → q % 2 ≡ 0

-- n = q d + r
module _ (n d q r : ℕ) (e : q * d + r ≡ n) (m : r < d) where
  stays : 2 * r < d → Near n d (q + 0)
  stays h = let f = add-mul q 0 d in record { half = omega arith; even = λ u. omega arith }

  steps : d < 2 * r → Near n d (q + 1)
  steps h = let f = add-mul q 1 d in record { half = omega arith; even = λ u. omega arith }

  -- q is even, or the next is
  halves : d ≤ 2 * r → 2 * r ≤ d → (k : ℕ) → q % 2 ≡ k → Near n d (q + k)
  halves h g zero u = let f = add-mul q 0 d in record { half = omega arith; even = λ _. omega arith }
  halves h g (suc zero) u = let f = add-mul q 1 d in record { half = omega arith; even = λ _. omega arith }
  halves h g (suc (suc k)) u = absurd (omega arith)

  by_half : (b : Bool) → ltb (2 * r) d ≡ b → (c : Bool) → ltb d (2 * r) ≡ c → Near n d (q + cond b 0 (cond c 1 (q % 2)))
  by_half true x c y = stays (ltb-true _ _ x)
  by_half false x true y = steps (ltb-true _ _ y)
  by_half false x false y = halves (ltb-false _ _ x) (ltb-false _ _ y) (q % 2) refl

size_near : (n d : ℕ) → 1 ≤ d → Near n d (nearest_size n d)
unfolding nearest_size rounded_of
size_near n d p =
    by_half n d (n / d) (n % d) (div-add-mod' n d) (mod-lt n {m = d} p) (ltb (2 * (n % d)) d) refl (ltb d (2 * (n % d))) refl

-- another number is at least one, so d parts, away from it
module _ (n d q k : ℕ) (p : 1 ≤ d) (a : Near n d q) where
  past : (k ≡ q → ⊥) → d ≤ apart n (k * d) + apart n (q * d)
  past f = elim (dec_lt k q) [
    | yes h ↦ let u = mul-le-mul_right {m = k + 1} {n = q} d (omega arith) in let w = add-mul k 1 d in omega arith
    | no h ↦ let u = mul-le-mul_right {m = q + 1} {n = k} d (omega arith) in let w = add-mul q 1 d in omega arith
  ]

  no_nearer : Dec (k ≡ q) → apart n (q * d) ≤ apart n (k * d)
  no_nearer (yes e) = rw e (omega arith)
  no_nearer (no f) = let u = a.half in let w = past f in omega arith

  tied : apart n (k * d) ≡ apart n (q * d) → (k ≡ q → ⊥) → q % 2 ≡ 0
  tied t f = let u = a.half in let w = past f in a.even (omega arith)

-- ---- of whole numbers, by sign and size

sub_apart : (m n : ℕ) → nat_abs (sub_ℕ m n) ≡ apart m n
sub_apart m n = elim (dec_lt m n) [ yes h ↦ rw (lt-ltb m n h) (omega arith) | no h ↦ rw (le-ltb m n (omega arith)) (omega arith) ]

-- on one side of zero the sizes' difference, on both sides their sum
spread : (s t : Bool) (m n : ℕ) → nat_abs (sized s m -ℤ sized t n) ≡ cond (differ s t) (m + n) (apart m n)
spread false false m zero = omega arith
spread false false m (suc n) = sub_apart m (suc n)
spread false true m zero = refl
spread false true m (suc n) = refl
spread true false zero zero = refl
spread true false zero (suc n) = sub_apart 0 (suc n) ∙ omega arith
spread true false (suc m) zero = sub_apart 0 (suc m) ∙ omega arith
spread true false (suc m) (suc n) = omega arith
spread true true zero zero = refl
spread true true zero (suc n) = omega arith
spread true true (suc m) zero = sub_apart 0 (suc m) ∙ omega arith
spread true true (suc m) (suc n) = sub_apart (suc n) (suc m) ∙ omega arith

beside : (s : Bool) (n d k : ℕ) → distance (sized s n) d (sized s k) ≡ apart n (k * d)
beside true n d k = ap (λ w. nat_abs (sized true n -ℤ w)) (times_sized true false k d) ∙ spread true true n (k * d)
beside false n d k = spread false false n (k * d)

abbrev other : Bool → Bool
other s = cond s false true

across : (s : Bool) (n d k : ℕ) → distance (sized s n) d (sized (other s) k) ≡ n + k * d
across true n d k = spread true false n (k * d)
across false n d k = ap (λ w. nat_abs (pos n -ℤ w)) (times_sized true false k d) ∙ spread false true n (k * d)

size_of : (s : Bool) (n : ℕ) → nat_abs (sized s n) ≡ n
size_of true zero = refl
size_of true (suc n) = refl
size_of false n = refl

-- a whole number stands on the side of s, or beyond zero
by_side : (s : Bool) (P : ℤ → Type 0) → ((j : ℕ) → P (sized s j)) → ((j : ℕ) → P (sized (other s) (suc j))) → (k : ℤ) → P k
by_side true P a b (pos zero) = a 0
by_side true P a b (pos (suc j)) = b j
by_side true P a b (negsuc j) = a (suc j)
by_side false P a b (pos j) = a j
by_side false P a b (negsuc j) = b j

module _ (s : Bool) (n d m : ℕ) (p : 1 ≤ d) (a : Near n d m) where
  -- beyond zero it is further than zero
  beyond : (j : ℕ) → n < n + suc j * d
  beyond j = let u = mul-le-mul_right {m = 1} {n = suc j} d (omega arith) in omega arith

  from_zero : apart n (m * d) ≤ n
  from_zero = let u = no_nearer n d m 0 p a (ℕ_discrete 0 m) in let z = zero-mul d in omega arith

  is_nearest : Nearest (sized s n) d (sized s m)
  is_nearest = record {
    none_nearer = by_side s (λ k. distance (sized s n) d (sized s m) ≤ distance (sized s n) d k)
        (λ j. rw (beside s n d m, beside s n d j) (no_nearer n d m j p a (ℕ_discrete j m)))
        (λ j. rw (beside s n d m, across s n d (suc j)) (let u = beyond j in let w = from_zero in omega arith));
    tie_even = by_side s (λ k. distance (sized s n) d k ≡ distance (sized s n) d (sized s m) → (k ≡ sized s m → ⊥) → nat_abs (sized s m) % 2 ≡ 0)
        (λ j t f. rw (size_of s m) (tied n d m j p a (sym (beside s n d j) ∙ t ∙ beside s n d m) (λ e. f (ap (sized s) e))))
        (λ j t f. let u = beyond j in let w = from_zero in absurd (omega (arith, sym (across s n d (suc j)) ∙ t ∙ beside s n d m)));
  }

  -- two that are equally near and even are one
  both_even : (j : ℕ) → apart n (j * d) ≡ apart n (m * d) → j % 2 ≡ 0 → m % 2 ≡ 0 → (j ≡ m → ⊥) → ⊥
  both_even j t e f g = elim (dec_lt j m) [
    | yes h ↦ let u = mul-le-mul_right {m = j + 2} {n = m} d (omega arith) in let w = add-mul j 2 d in let x = a.half in omega arith
    | no h ↦ let u = mul-le-mul_right {m = m + 2} {n = j} d (omega arith) in let w = add-mul m 2 d in let x = a.half in omega arith
  ]

  same_side : (j : ℕ) → Nearest (sized s n) d (sized s j) → Dec (j ≡ m) → sized s j ≡ sized s m
  same_side j b (yes e) = ap (sized s) e
  same_side j b (no f) =
      let down = rw (beside s n d j, beside s n d m) at (b.none_nearer (sized s m)) in
      let up = no_nearer n d m j p a (no f) in
      let t : apart n (j * d) ≡ apart n (m * d) = omega arith in
      let others : (sized s m ≡ sized s j) → ⊥ = λ e. f (sym (size_of s j) ∙ sym (ap nat_abs e) ∙ size_of s m) in
      let e = b.tie_even (sized s m) (beside s n d m ∙ sym t ∙ sym (beside s n d j)) others in
      absurd (both_even j t (rw (size_of s j) at e) (tied n d m j p a t f) f)

  is_only : (q : ℤ) → Nearest (sized s n) d q → q ≡ sized s m
  is_only = by_side s (λ q. Nearest (sized s n) d q → q ≡ sized s m)
      (λ j b. same_side j b (ℕ_discrete j m))
      (λ j b. let u = beyond j in let z = zero-mul d in absurd (omega (arith, rw (across s n d (suc j), beside s n d 0) at (b.none_nearer (sized s 0)))))

-- ---- the claim

nearest_is : (z : ℤ) (d : ℕ) → 1 ≤ d → Nearest z d (nearest z d)
unfolding nearest
nearest_is (pos n) d p = is_nearest false n d (nearest_size n d) p (size_near n d p)
nearest_is (negsuc n) d p = is_nearest true (suc n) d (nearest_size (suc n) d) p (size_near (suc n) d p)

nearest_only : (z : ℤ) (d : ℕ) → 1 ≤ d → (q : ℤ) → Nearest z d q → q ≡ nearest z d
unfolding nearest
nearest_only (pos n) d p = is_only false n d (nearest_size n d) p (size_near n d p)
nearest_only (negsuc n) d p = is_only true (suc n) d (nearest_size (suc n) d) p (size_near (suc n) d p)

pub rounds_to_nearest : RoundsToNearest
unfolding value_in
rounds_to_nearest z d p = (nearest z d, (nearest_is z d p, refl, nearest_only z d p))
