-- What the code keeps of a literal's digits comes to the exact value of all of them.
use Prim.Native.Nat.{ℕ, zero, suc, ◌+◌, ◌-◌, ◌*◌, ◌^◌, ◌≤◌, ◌<◌}
use mathlib.Core.Path.{◌≡◌, refl, sym, ap, ◌∙◌}
use mathlib.Core.Bool.{Bool, true, false, cond}
use native.Mathlib.Omega.{arith}
use native.Mathlib.Numerals.{add-one}
use native.Mathlib.Nat.{pow-le-pow_right, pow-suc, mul_assoc, mul_right_comm, mul-mul-mul_comm}
use native.Mathlib.Decide.{dec_lt, ℕ_discrete}
use lib.Dec.{ltb, eqb}
use lib.Pow.{pow-add}
use borrow.Author.Tests.{lt-ltb, le-ltb, eq-eqb, ne_eqb}
use Rattle.decimal.specs.steps.Judged.{judged_of}
use Rattle.decimal.specs.Exact.{exact}
use Rattle.decimal.proofs.Laws.{judged_exact, exact_large}
use Rattle.amount.specs.steps.Kept.{grown, factor, kept_value}

-- ---- powers of ten, and the factor that makes millionths

pub ten_pos : (k : ℕ) → 0 < 10 ^ k
ten_pos k = pow-le-pow_right {n = 10} (omega arith) {i = 0} {j = k} (omega arith)

ten_more : (k : ℕ) → 10 ^ (k + 1) ≡ 10 ^ k * 10
ten_more k = rw (add-one k) (pow-suc 10 k)

pub factor_pos : (k : ℕ) → 0 < factor k
unfolding factor
factor_pos k = ten_pos (6 - k)

pub factor_more : (k : ℕ) → k < 6 → factor k ≡ factor (k + 1) * 10
unfolding factor
factor_more k h = ap (λ n. 10 ^ n) {x = 6 - k} {y = 6 - (k + 1) + 1} (omega arith) ∙ ten_more (6 - (k + 1))

factor_is : (k : ℕ) → k ≤ 6 → factor k * 10 ^ k ≡ 1000000
unfolding factor
factor_is k h = sym (pow-add 10 (6 - k) k) ∙ ap (λ n. 10 ^ n) {x = 6 - k + k} {y = 6} (omega arith)

-- Of a number N with j places are kept: the size w of its whole part, n with k places, and whether a digit after these
-- is not 0. Either the whole part is too large; or the digits after these make x, less than p, the power of ten for as
-- many.
pub data Keeps (w n k : ℕ) (tail : Bool) (N j : ℕ) : Type 0 where
  too_large : 1000000000 ≤ w → 1000000000 * 10 ^ j ≤ N → Keeps w n k tail N j
  kept : w < 1000000000 → k ≤ 6 → (p x : ℕ) → 10 ^ j ≡ p * 10 ^ k → N ≡ n * p + x → x < p → (k < 6 → p ≡ 1) → tail ≡ ltb 0 x → Keeps w n k tail N j

pub none_kept : Keeps 0 0 0 false 0 0
none_kept = kept (omega arith) (omega arith) 1 0 refl refl (omega arith) (λ _. refl) refl

-- ---- one more digit, of the byte b

module _ (b : ℕ) (low : 48 ≤ b) (high : b ≤ 57) where
  -- before the point
  grown_by : (n N : ℕ) → N ≡ n → n < 1000000000 → Dec (n * 10 + (b - 48) < 1000000000) → Keeps (grown n (b - 48)) (grown n (b - 48)) 0 false (N * 10 + (b - 48)) 0
  grown_by n N e l (yes s) = rw (lt-ltb n 1000000000 l, e) (kept s (omega arith) 1 0 refl (omega arith) (omega arith) (λ _. refl) refl)
  grown_by n N e l (no s) = rw (lt-ltb n 1000000000 l) (too_large (omega arith) (omega arith))

  pub whole_more : (n N : ℕ) → Keeps n n 0 false N 0 → Keeps (grown n (b - 48)) (grown n (b - 48)) 0 false (N * 10 + (b - 48)) 0
  whole_more n N (too_large l g) = rw (le-ltb n 1000000000 l) (too_large l (omega arith))
  whole_more n N (kept l i p x e g y f t) =
      let q = f (omega arith) in
      grown_by n N (omega (arith, rw q at g)) l (dec_lt (n * 10 + (b - 48)) 1000000000)

  -- whether a digit that is not kept is not 0
  tail_more : (t : Bool) → Dec (b ≡ 48) → (x : ℕ) → t ≡ ltb 0 x → cond (eqb b 48) t true ≡ ltb 0 (x * 10 + (b - 48))
  tail_more t (yes d) zero u = rw (d, u)
  tail_more t (yes d) (suc x) u = rw (eq-eqb b 48 d, u, lt-ltb 0 (suc x) (omega arith), lt-ltb 0 (suc x * 10 + (b - 48)) (omega arith))
  tail_more t (no d) x u = rw (ne_eqb b 48 d, lt-ltb 0 (x * 10 + (b - 48)) (omega arith))

  module _ (w n k : ℕ) (t : Bool) (N j : ℕ) where
    -- after the point, where there are not six places yet
    pub place_more : k < 6 → Keeps w n k t N j → Keeps w (n * 10 + (b - 48)) (k + 1) t (N * 10 + (b - 48)) (j + 1)
    place_more s (too_large l g) = too_large l (omega (arith, ten_more j))
    place_more s (kept l i p x e g y f u) =
        let q = f s in
        kept l (omega arith) 1 0 (omega (arith, ten_more j, ten_more k, rw q at e)) (omega (arith, rw q at g)) (omega arith) (λ _. refl)
        (u ∙ ap (ltb 0) {x = x} {y = 0} (omega arith))

    -- and where there are six
    pub past_more : 6 ≤ k → Keeps w n k t N j → Keeps w n k (cond (eqb b 48) t true) (N * 10 + (b - 48)) (j + 1)
    past_more s (too_large l g) = too_large l (omega (arith, ten_more j))
    past_more s (kept l i p x e g y f u) =
        kept l i (p * 10) (x * 10 + (b - 48)) (omega (arith, ten_more j, mul_right_comm p 10 (10 ^ k))) (omega (arith, mul_assoc n p 10)) (omega arith)
        (λ z. absurd (omega arith))
        (tail_more t (ℕ_discrete b 48) x u)

-- ---- the value at the end

-- what is not kept counts only as not 0
rest_is : (m : Bool) (q x : ℕ) → Dec (x ≡ 0) → judged_of m q (cond (ltb 0 x) 1 0) ≡ judged_of m q (x * 1000000)
unfolding judged_of
rest_is m q x (yes z) = rw z
rest_is m q x (no z) = rw (lt-ltb 0 x (omega arith), ne_eqb (x * 1000000) 0 (λ e. omega arith))

rest_small : (k j p x : ℕ) → 10 ^ j ≡ p * 10 ^ k → k ≤ 6 → x < p → (k < 6 → p ≡ 1) → Dec (k < 6) → x * 1000000 < 10 ^ j
rest_small k j p x e i y f (yes l) = let q = f l in omega (arith, ten_pos j)
rest_small k j p x e i y f (no l) = let q : k ≡ 6 = omega arith in omega (arith, rw q at e)

-- what is kept has the value of all
pub finished : (m : Bool) (w n k : ℕ) (t : Bool) (N j : ℕ) → Keeps w n k t N j → kept_value m w n k t ≡ exact m (N * 1000000) (10 ^ j)
unfolding kept_value
finished m w n k t N j (too_large l g) = rw (le-ltb w 1000000000 l) (sym (exact_large m (N * 1000000) (10 ^ j) (omega (arith, ten_pos j))))
finished m w n k t N j (kept l i p x e g y f u) =
    rw (lt-ltb w 1000000000 l, u)
    (rest_is m (n * factor k) x (ℕ_discrete x 0)
    ∙ judged_exact m (10 ^ j) (n * factor k) (x * 1000000) (N * 1000000) (rw (e, mul-mul-mul_comm n (factor k) p (10 ^ k), factor_is k i) (omega arith))
    (rest_small k j p x e i y f (dec_lt k 6)))
