-- A size in digits writes that many millionths.
use Rattle.std.specs.Prelude.{Ok}
use Prim.Native.Nat.{ℕ, zero, suc, ◌+◌, ◌-◌, ◌*◌, ◌/◌, ◌%◌, ◌^◌, ◌≤◌, ◌<◌}
use native.Mathlib.Omega.{arith}
use native.Mathlib.Nat.{mul_assoc, mul_comm, pow-suc, mul-div_cancel, mul-mod_left, mul-le-mul_right}
use mathlib.Core.Path.{◌≡◌, refl, sym, ◌∙◌, ap}
use mathlib.Core.Bool.{Bool, true, false, cond}
use mathlib.Core.List.{List, [], ◌∷◌, ◌++◌}
use borrow.Author.Tests.{le-leb, ltb-true, le-ltb, eqb-true, ne_eqb}
use lib.Dec.{eqb, ltb}
use lib.ListN.{length}
use Rattle.decimal.specs.Exact.{limit, exact, decimal_of}
use Rattle.text.specs.Bytes.{is_digit}
use Rattle.text.proofs.TestLaws.{differ, and_left, and_right}
use Rattle.amount.specs.Literal.{in_literal, count, is_point, number, places, is_number}
use Rattle.amount.proofs.Digits.{ten_pos}
use Rattle.layout.specs.Written.{digit, whole_text, zeros, trimmed, six, fraction_text, size_text}

-- every byte passes a test
abbrev pub All : (ℕ → Bool) → List ℕ → Type 0
All p [] = Unit {0}
All p (b ∷ s) = (p b ≡ true) × All p s

all_append : (p : ℕ → Bool) (xs ys : List ℕ) → All p xs → All p ys → All p (xs ++ ys)
all_append p [] ys h k = k
all_append p (x ∷ xs) ys h k = (h.0, all_append p xs ys h.1 k)

pub all_part : (p q : ℕ → Bool) → ((b : ℕ) → p b ≡ true → q b ≡ true) → (xs : List ℕ) → All p xs → All q xs
all_part p q f [] h = tt
all_part p q f (x ∷ xs) h = (f x h.0, all_part p q f xs h.1)

-- ---- digits

pub digit_is : (n : ℕ) → is_digit (digit n) ≡ true
unfolding is_digit
digit_is n = rw (le-leb 48 (48 + n % 10) (omega arith), le-leb (48 + n % 10) 57 (omega arith))

no_point : (b : ℕ) → is_digit b ≡ true → is_point b ≡ false
unfolding is_digit
no_point b e = ne_eqb b 46 (differ is_digit b 46 e refl)

number_append : (n : ℕ) (xs ys : List ℕ) → number n (xs ++ ys) ≡ number (number n xs) ys
unfolding number
number_append n [] ys = refl
number_append n (x ∷ xs) ys = number_append (cond (is_digit x) (n * 10 + (x - 48)) n) xs ys

count_append : (p : ℕ → Bool) (xs ys : List ℕ) → count p (xs ++ ys) ≡ count p xs + count p ys
unfolding count
count_append p [] ys = omega arith
count_append p (x ∷ xs) ys = go (p x) (count_append p xs ys)
  where
    go : (b : Bool) → count p (xs ++ ys) ≡ count p xs + count p ys
        → cond b (suc (count p (xs ++ ys))) (count p (xs ++ ys)) ≡ cond b (suc (count p xs)) (count p xs) + count p ys
    go true e = omega arith
    go false e = e

module _ where
  pub count_digits : (xs : List ℕ) → All is_digit xs → count is_digit xs ≡ length xs
  unfolding count
  count_digits [] h = refl
  count_digits (x ∷ xs) h = rw h.0 (ap suc (count_digits xs h.1))

  pub count_points : (xs : List ℕ) → All is_digit xs → count is_point xs ≡ 0
  unfolding count
  count_points [] h = refl
  count_points (x ∷ xs) h = rw (no_point x h.0) (count_points xs h.1)

  places_digits : (xs ys : List ℕ) → All is_digit xs → places (xs ++ ys) ≡ places ys
  unfolding places
  places_digits [] ys h = refl
  places_digits (x ∷ xs) ys h = rw (no_point x h.0) (places_digits xs ys h.1)

-- ---- whole numbers

whole_digits : (k n : ℕ) → All is_digit (whole_text k n)
unfolding whole_text
whole_digits zero n = (digit_is n, tt)
whole_digits (suc k) n = go (ltb n 10) (whole_digits k (n / 10))
  where
    go : (b : Bool) → All is_digit (whole_text k (n / 10)) → All is_digit (cond b (digit n ∷ []) (whole_text k (n / 10) ++ (digit n ∷ [])))
    go true h = (digit_is n, tt)
    go false h = all_append is_digit (whole_text k (n / 10)) (digit n ∷ []) h (digit_is n, tt)

number_digit : (m n : ℕ) → number m (digit n ∷ []) ≡ m * 10 + n % 10
unfolding number
number_digit m n = rw (digit_is n) (omega arith)

whole_number : (k n : ℕ) → n < 10 ^ suc k → number 0 (whole_text k n) ≡ n
unfolding whole_text
whole_number zero n h = number_digit 0 n ∙ omega arith
whole_number (suc k) n h = go (ltb n 10) refl (whole_number k (n / 10))
  where
    t : List ℕ
    t = whole_text k (n / 10)

    go : (b : Bool) → ltb n 10 ≡ b → (n / 10 < 10 ^ suc k → number 0 t ≡ n / 10) → number 0 (cond b (digit n ∷ []) (t ++ (digit n ∷ []))) ≡ n
    go true e f = number_digit 0 n ∙ omega (arith, ltb-true n 10 e)
    go false e f =
        number_append 0 t (digit n ∷ []) ∙ number_digit (number 0 t) n ∙ rw (f (omega (arith, rw (pow-suc 10 (suc k)) at h))) (omega arith)

-- ---- trailing zeros

zeros_number : (m : ℕ) (s : List ℕ) → zeros s ≡ true → number m s ≡ m * 10 ^ length s
unfolding zeros number is_digit
zeros_number m [] e = omega arith
zeros_number m (b ∷ s) e =
    let h : b ≡ 48 = eqb-true b 48 (and_left (eqb b 48) (zeros s) e) in
    rw h (let z : m * 10 + 0 ≡ m * 10 = omega arith in rw (
      z,
      zeros_number (m * 10) s (and_right (eqb b 48) (zeros s) e),
      pow-suc 10 (length s),
      mul_assoc m 10
          (10 ^ length s),
      mul_comm 10 (10 ^ length s),
    ))

number_step : (m b : ℕ) (t : List ℕ) → is_digit b ≡ true → number m (b ∷ t) ≡ number (m * 10 + (b - 48)) t
unfolding number
number_step m b t e = rw e

number_none : (m : ℕ) → number m [] ≡ m
unfolding number
number_none m = refl

trimmed_number : (m : ℕ) (s : List ℕ) → All is_digit s → number m (trimmed s) * 10 ^ length s ≡ number m s * 10 ^ length (trimmed s)
unfolding trimmed
trimmed_number m [] h = refl
trimmed_number m (b ∷ s) h = go (zeros (b ∷ s)) refl (trimmed_number (m * 10 + (b - 48)) s h.1)
  where
    n : ℕ
    n = m * 10 + (b - 48)

    step : (t : List ℕ) → number m (b ∷ t) ≡ number n t
    step t = number_step m b t h.0

    go : (z : Bool) → zeros (b ∷ s) ≡ z → number n (trimmed s) * 10 ^ length s ≡ number n s * 10 ^ length (trimmed s)
        → number m (cond z [] (b ∷ trimmed s)) * 10 ^ length (b ∷ s) ≡ number m (b ∷ s) * 10 ^ length (cond z [] (b ∷ trimmed s))
    go true e ih = rw (zeros_number m (b ∷ s) e, number_none m) (omega arith)
    go false e ih =
        rw (step s, step (trimmed s), pow-suc 10 (length s), pow-suc 10 (length (trimmed s)), ← mul_assoc (number n (trimmed s)) (10 ^ length s) 10, ih)
        (mul_assoc (number n s) (10 ^ length (trimmed s)) 10)

trimmed_digits : (s : List ℕ) → All is_digit s → All is_digit (trimmed s)
unfolding trimmed
trimmed_digits [] h = tt
trimmed_digits (b ∷ s) h = go (zeros (b ∷ s)) (trimmed_digits s h.1)
  where
    go : (z : Bool) → All is_digit (trimmed s) → All is_digit (cond z [] (b ∷ trimmed s))
    go true k = tt
    go false k = (h.0, k)

six_digits : (n : ℕ) → All is_digit (six n)
unfolding six
six_digits n = (digit_is (n / 100000), (digit_is (n / 10000), (digit_is (n / 1000), (digit_is (n / 100), (digit_is (n / 10), (digit_is n, tt))))))

digit_step : (m n : ℕ) (t : List ℕ) → number m (digit n ∷ t) ≡ number (m * 10 + n % 10) t
digit_step m n t = rw (number_step m (digit n) t (digit_is n)) (ap (λ z. number (m * 10 + z) t) {x = 48 + n % 10 - 48} {y = n % 10} (omega arith))

-- six digits, one after another: what has been written so far
module _ (n : ℕ) (h : n < 1000000) where
  so : (k x y z : ℕ) (t : List ℕ) → x * 10 + y % 10 ≡ z → number x (digit y ∷ t) ≡ number z t
  so k x y z t e = digit_step x y t ∙ ap (λ w. number w t) e

  six_number : (m : ℕ) → number m (six n) ≡ m * 1000000 + n
  unfolding six
  six_number m =
      so 1 m (n / 100000) (m * 10 + n / 100000) _ (omega arith)
      ∙ so 2 (m * 10 + n / 100000) (n / 10000) (m * 100 + n / 10000) _ (omega arith)
      ∙ so 3 (m * 100 + n / 10000) (n / 1000) (m * 1000 + n / 1000) _ (omega arith)
      ∙ so 4 (m * 1000 + n / 1000) (n / 100) (m * 10000 + n / 100) _ (omega arith)
      ∙ so 5 (m * 10000 + n / 100) (n / 10) (m * 100000 + n / 10) _ (omega arith)
      ∙ so 6 (m * 100000 + n / 10) n (m * 1000000 + n) [] (omega arith)
      ∙ number_none (m * 1000000 + n)

-- ---- the fraction

nothing : (m n : ℕ) → m * 10 ^ 6 ≡ m * 1000000 + n → number m [] * 1000000 ≡ (m * 1000000 + n) * 10 ^ places []
unfolding number places
nothing m n e = omega (arith, e)

point : (m : ℕ) (t : List ℕ) (n : ℕ) → All is_digit t → number m t * 10 ^ 6 ≡ (m * 1000000 + n) * 10 ^ length t
    → number m (46 ∷ t) * 1000000 ≡ (m * 1000000 + n) * 10 ^ places (46 ∷ t)
unfolding number places is_digit
point m t n h e = rw (count_digits t h) e

-- going on from m, a fraction writes m and n millionths, and its places are its digits
fraction_number : (m n : ℕ) → n < 1000000 → number m (fraction_text n) * 1000000 ≡ (m * 1000000 + n) * 10 ^ places (fraction_text n)
unfolding fraction_text six
fraction_number m n h = go (zeros (six n)) refl
  where
    t : List ℕ
    t = trimmed (six n)

    go : (z : Bool) → zeros (six n) ≡ z → number m (cond z [] (46 ∷ t)) * 1000000 ≡ (m * 1000000 + n) * 10 ^ places (cond z [] (46 ∷ t))
    go true e = nothing m n (sym (zeros_number m (six n) e) ∙ six_number n h m)
    go false e = point m t n (trimmed_digits (six n) (six_digits n)) (trimmed_number m (six n) (six_digits n) ∙ ap (λ z. z * 10 ^ length t) (six_number n h m))

-- ---- sizes

module _ (n : ℕ) (h : n ≤ limit) where
  w : ℕ
  w = n / 1000000

  f : ℕ
  f = n % 1000000

  front : List ℕ
  front = whole_text 8 w

  -- the digits' number over a power of ten is n, in millionths
  size_number : number 0 (size_text n) * 1000000 ≡ n * 10 ^ places (size_text n)
  unfolding size_text w f front
  size_number =
      rw (number_append 0 front (fraction_text f), places_digits front (fraction_text f) (whole_digits 8 w), whole_number 8 w (omega arith))
      (fraction_number w f (omega arith) ∙ ap (λ z. z * 10 ^ places (fraction_text f)) {x = w * 1000000 + f} {y = n} (omega arith))

-- ---- the text's shape

whole_head : (k n : ℕ) → (b : ℕ) × (t : List ℕ) × (whole_text k n ≡ b ∷ t) × (is_digit b ≡ true)
unfolding whole_text
whole_head zero n = (digit n, [], refl, digit_is n)
whole_head (suc k) n = go (ltb n 10) (whole_head k (n / 10))
  where
    go : (c : Bool) → (b : ℕ) × (t : List ℕ) × (whole_text k (n / 10) ≡ b ∷ t) × (is_digit b ≡ true)
        → (b : ℕ) × (t : List ℕ) × (cond c (digit n ∷ []) (whole_text k (n / 10) ++ (digit n ∷ [])) ≡ b ∷ t) × (is_digit b ≡ true)
    go true h = (digit n, [], refl, digit_is n)
    go false h = (h.0, h.1 ++ (digit n ∷ []), ap (λ z. z ++ (digit n ∷ [])) h.2, h.3)

pub digit_literal : (b : ℕ) → is_digit b ≡ true → in_literal b ≡ true
unfolding in_literal
digit_literal b e = rw e

point_literal_lem : in_literal 46 ≡ true
unfolding in_literal is_digit
point_literal_lem = refl

one_none : count is_point [] ≤ 1
unfolding count
one_none = omega arith

one_point : (t : List ℕ) → All is_digit t → count is_point (46 ∷ t) ≤ 1
unfolding count
one_point t h = omega (arith, count_points t h)

fraction_literal : (n : ℕ) → All in_literal (fraction_text n)
unfolding fraction_text
fraction_literal n = go (zeros (six n))
  where
    go : (z : Bool) → All in_literal (cond z [] (46 ∷ trimmed (six n)))
    go true = tt
    go false = (point_literal_lem, all_part is_digit in_literal digit_literal (trimmed (six n)) (trimmed_digits (six n) (six_digits n)))

fraction_points : (n : ℕ) → count is_point (fraction_text n) ≤ 1
unfolding fraction_text
fraction_points n = go (zeros (six n))
  where
    go : (z : Bool) → count is_point (cond z [] (46 ∷ trimmed (six n))) ≤ 1
    go true = one_none
    go false = one_point (trimmed (six n)) (trimmed_digits (six n) (six_digits n))

pub size_head : (n : ℕ) → (b : ℕ) × (t : List ℕ) × (size_text n ≡ b ∷ t) × (is_digit b ≡ true)
unfolding size_text
size_head n = let h = whole_head 8 (n / 1000000) in (h.0, h.1 ++ fraction_text (n % 1000000), ap (λ z. z ++ fraction_text (n % 1000000)) h.2, h.3)

pub size_literal : (n : ℕ) → All in_literal (size_text n)
unfolding size_text
size_literal n =
    all_append in_literal (whole_text 8 (n / 1000000)) (fraction_text (n % 1000000))
    (all_part is_digit in_literal digit_literal (whole_text 8 (n / 1000000)) (whole_digits 8 (n / 1000000))) (fraction_literal (n % 1000000))

pub size_is_number : (n : ℕ) → is_number (size_text n) ≡ true
unfolding size_text is_number
size_is_number n =
    let a = whole_text 8 (n / 1000000) in
    let b = fraction_text (n % 1000000) in
    let h = whole_digits 8 (n / 1000000) in
    let l : 1 ≤ length a = rw (whole_head 8 (n / 1000000)).2 (omega arith) in
    rw (count_append is_digit a b, count_append is_point a b, count_digits a h, count_points a h)
    (rw (le-leb 1 (length a + count is_digit b) (omega arith), le-leb (0 + count is_point b) 1 (omega (arith, fraction_points (n % 1000000)))))

-- ---- the exact value

exact_whole : (m : Bool) (n d : ℕ) → n ≤ limit → 0 < d → exact m (n * d) d ≡ Ok (decimal_of m n)
unfolding exact
exact_whole m n d h p = rw (le-ltb (limit * d) (n * d) (mul-le-mul_right d h), mul-mod_left n d, mul-div_cancel n p)

pub size_exact : (m : Bool) (n : ℕ) → n ≤ limit → exact m (number 0 (size_text n) * 1000000) (10 ^ places (size_text n)) ≡ Ok (decimal_of m n)
size_exact m n h = rw (size_number n h) (exact_whole m n (10 ^ places (size_text n)) h (ten_pos (places (size_text n))))
