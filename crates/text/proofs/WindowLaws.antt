-- Longest runs in windows: what the first stop in a window says of a run, and the classes by the tests that windows
-- make.
use Prim.Native.Nat.{ℕ, zero, suc, ◌+◌, ◌-◌, ◌≤◌, ◌<◌, min}
use native.Mathlib.Decide.{dec_lt}
use native.Mathlib.Nat.{add-zero}
use native.Mathlib.Numerals.{add-one}
use native.Mathlib.Omega.{arith}
use mathlib.Core.Path.{◌≡◌, refl, sym, ◌∙◌}
use mathlib.Core.Bool.{Bool, true, false, cond, ◌&&◌, ◌||◌, and-false, or-false}
use mathlib.Core.List.{List}
use borrow.Author.Tests.{lt-leb}
use lib.Dec.{leb, eqb}
use lib.ListN.{length, get_or}
use Rattle.text.specs.Bytes.{is_capital, is_small, is_digit, starts_part, in_currency, in_tag, in_link}
use Rattle.text.specs.Run.{run_to}
use Rattle.text.specs.steps.Windows.{first_stop, is_among}
use Rattle.text.proofs.Steps.{run_on, run_stops, run_ends, run_ind, run_from_lem}

-- what the code's test says; t is what its first part gave
pub among : (small x y b : ℕ) (t : Bool) → t ≡ starts_part b → (t || (leb small b && leb b 122) || eqb b 45 || eqb b 95 || eqb b x || eqb b y) ≡ is_among small x y b
unfolding is_among
among small x y b t e = rw e

-- ---- the code's loop over a window

pub stop_none : (p : ℕ → Bool) (none : ℕ) → none ≡ first_stop p none 0
unfolding first_stop
stop_none p none = refl

-- f is the first stop before place i, and g says whether the run goes on there
module _ (p : ℕ → Bool) (none i f : ℕ) (u : f ≡ first_stop p none i) where
  pub stop_next : (a b : ℕ) (g : Bool) → g ≡ p i → a ≡ cond g none i → b ≡ min f a → b ≡ first_stop p none (i + 1)
  unfolding first_stop
  stop_next a b g v w x = rw (add-one, ← u, ← v, ← w) x

  pub stop_all : (k : ℕ) → i ≤ k → k ≤ i → f ≡ first_stop p none k
  stop_all k l h = let e : i ≡ k = omega arith in rw (← e) u

-- ---- what the first stop says

-- R gives where a run ends from a place on, and P whether it goes on at a place of a text of n bytes.
module _ (R : ℕ → ℕ) (P : ℕ → Bool) (n : ℕ) (on : (j : ℕ) → j < n → P j ≡ true → R j ≡ R (j + 1))
    (off : (j : ℕ) → j < n → P j ≡ false → R j ≡ j) (at none : ℕ) where
  -- f is the first stop in the k bytes from `at` on: the run ends there, or where there is none goes on behind them
  abbrev pub Shows : ℕ → ℕ → Type 0
  Shows k f = (f < k → R at ≡ at + f) × (k ≤ f → (f ≡ none) × (R at ≡ R (at + k)))

  module _ (k f : ℕ) (h : k < none) where
    stopped : (t : Bool) → f < k → R at ≡ at + f → Shows (suc k) (min f (cond t none k))
    stopped t d r = let m : min f (cond t none k) ≡ f = same t in rw m ((λ x. r), (λ x. absurd (omega arith)))
      where
        same : (t : Bool) → min f (cond t none k) ≡ f
        same true = omega arith
        same false = omega arith

    going : at + k < n → f ≡ none → R at ≡ R (at + k) → (t : Bool) → P (at + k) ≡ t → Shows (suc k) (min f (cond t none k))
    going l u r true e =
        let q : at + suc k ≡ at + k + 1 = omega arith in
        ((λ x. absurd (omega arith)), (λ x. (omega arith, rw q (r ∙ on (at + k) l e))))
    going l u r false e =
        let q : min f k ≡ k = omega arith in
        rw q ((λ x. r ∙ off (at + k) l e), (λ x. absurd (omega arith)))

  pub shows : (k : ℕ) → k ≤ none → at + k ≤ n → Shows k (first_stop (λ (j : ℕ). P (at + j)) none k)
  unfolding first_stop
  shows zero h l = ((λ m. absurd (omega arith)), (λ m. (refl, rw (add-zero at))))
  shows (suc k) h l =
      let f = first_stop (λ (j : ℕ). P (at + j)) none k in
      let u = shows k (omega arith) (omega arith) in
      elim (dec_lt f k) [
        | yes d ↦ stopped k f (omega arith) (P (at + k)) d (u.0 d)
        | no d ↦ let v = u.1 (omega arith) in going k f (omega arith) (omega arith) v.0 v.1 (P (at + k)) refl
      ]

-- ---- the code's loop over the windows of a text

-- The invariant is that the answer a is the end of the run that is left at i; f is the first stop in the k bytes there.
module _ (R : ℕ → ℕ) (P : ℕ → Bool) (n : ℕ) (on : (j : ℕ) → j < n → P j ≡ true → R j ≡ R (j + 1))
    (off : (j : ℕ) → j < n → P j ≡ false → R j ≡ j) (a i k f : ℕ) (v : a ≡ R i) (h : i + k ≤ n)
    (u : f ≡ first_stop (λ (j : ℕ). P (i + j)) k k) where
  pub first_says : (f < k → i + f ≡ a) × (k ≤ f → a ≡ R (i + k))
  first_says = let w = rw (← u) at (shows R P n on off i k k (omega arith) h) in ((λ l. sym (v ∙ w.0 l)), (λ l. v ∙ (w.1 l).1))

module _ (p : ℕ → Bool) (s : List ℕ) (a i f : ℕ) (v : a ≡ run_to p s i) (k : 32 ≤ length s) (h : i ≤ length s - 32)
    (u : f ≡ first_stop (λ (j : ℕ). p (get_or s (i + j) 0)) 32 32) where
  says : (f < 32 → i + f ≡ a) × (32 ≤ f → a ≡ run_to p s (i + 32))
  says = first_says (λ (j : ℕ). run_to p s j) (λ (j : ℕ). p (get_or s j 0)) (length s) (run_on p s) (run_stops p s) a i 32 f v (omega arith) u

  pub window_stops : (w : ℕ) → w ≡ f → f < 32 → i + w ≡ a
  window_stops w e = rw e says.0

  pub window_passed : 32 ≤ f → a ≡ run_to p s (i + 32)
  window_passed = says.1

pub ruleset window_laws = (window_stops, window_passed)

-- ---- classes

-- a run of a class is one of the same class otherwise tested
run_as : (p q : ℕ → Bool) → ((b : ℕ) → p b ≡ q b) → (s : List ℕ) (i e : ℕ) → e ≡ run_to p s i → e ≡ run_to q s i
run_as p q same s =
    run_ind
    p
    s
    (λ (i e : ℕ). e ≡ run_to q s i)
    (λ i h. sym (run_ends q s i h))
    (λ i h o. sym (run_stops q s i h (sym (same (get_or s i 0)) ∙ o)))
    (λ i e h o u. u ∙ sym (run_on q s i h (sym (same (get_or s i 0)) ∙ o)))

no_small : (b : ℕ) → (leb 123 b && leb b 122) ≡ false
no_small b = elim (dec_lt b 123) [ yes h ↦ rw (lt-leb 123 b h) | no h ↦ rw (lt-leb b 122 (omega arith), and-false (leb 123 b)) ]

among_currency : (b : ℕ) → is_among 123 46 39 b ≡ in_currency b
unfolding is_among in_currency starts_part
among_currency b = rw (no_small b, or-false (is_capital b || is_digit b))

among_tag : (b : ℕ) → is_among 97 45 95 b ≡ in_tag b
unfolding is_among in_tag starts_part is_small
among_tag b = turned (is_capital b) (leb 97 b && leb b 122) (is_digit b) (eqb b 45) (eqb b 95)
  where
    turned : (c m d h u : Bool) → (c || d || m || h || u || h || u) ≡ (c || m || d || h || u)
    turned true m d h u = refl
    turned false true true h u = refl
    turned false true false h u = refl
    turned false false true h u = refl
    turned false false false true u = refl
    turned false false false false true = refl
    turned false false false false false = refl

among_link : (b : ℕ) → is_among 97 95 46 b ≡ in_link b
unfolding is_among in_link in_tag starts_part is_small
among_link b = turned (is_capital b) (leb 97 b && leb b 122) (is_digit b) (eqb b 45) (eqb b 95) (eqb b 46)
  where
    turned : (c m d h u k : Bool) → (c || d || m || h || u || u || k) ≡ (c || m || d || h || u || k)
    turned true m d h u k = refl
    turned false true true h u k = refl
    turned false true false h u k = refl
    turned false false true h u k = refl
    turned false false false true u k = refl
    turned false false false false true k = refl
    turned false false false false false k = refl

module _ (s : List ℕ) (at e : ℕ) where
  pub currency_run : e ≡ run_to (is_among 123 46 39) s at → e ≡ run_to in_currency s at
  currency_run f = run_as (is_among 123 46 39) in_currency among_currency s at e f

  pub tag_run : e ≡ run_to (is_among 97 45 95) s at → e ≡ run_to in_tag s at
  tag_run f = run_as (is_among 97 45 95) in_tag among_tag s at e f

  pub link_run : e ≡ run_to (is_among 97 95 46) s at → e ≡ run_to in_link s at
  link_run f = run_as (is_among 97 95 46) in_link among_link s at e f

  pub forward : (p : ℕ → Bool) → e ≡ run_to p s at → at ≤ e
  forward p f = run_from_lem p s at e f

pub ruleset class_run_laws = (currency_run, tag_run, link_run, forward)
