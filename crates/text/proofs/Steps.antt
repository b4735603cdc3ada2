-- Stepping through a text: how s[i] steps a definition that goes down the list `drop i s`, and what a longest run is.
use Prim.Native.Nat.{ℕ, zero, suc, ◌+◌, ◌-◌, ◌≤◌, ◌<◌}
use native.Mathlib.Decide.{dec_lt}
use native.Mathlib.Nat.{add-zero}
use native.Mathlib.Numerals.{add-one}
use native.Mathlib.Omega.{arith}
use mathlib.Core.Path.{◌≡◌, refl, ◌∙◌}
use mathlib.Core.Bool.{Bool, true, false}
use mathlib.Core.List.{List, ◌∷◌}
use borrow.Author.Tests.{eq-eqb, ne_eqb, lt-ltb, le-ltb, le-leb, lt-leb}
use lib.ListN.{length, take, drop, get_or, length-drop, drop_of_length-le, get_or-eq_default}
use lib.Seq.{drop-cons, get_or-drop, take_all}
use Rattle.text.specs.Run.{run_from, run_to}
use Rattle.text.proofs.TestLaws.{differ}

-- at a place inside, what is left is the byte there and what is left after it
pub drop_step : (s : List ℕ) (i : ℕ) → i < length s → drop i s ≡ get_or s i 0 ∷ drop (i + 1) s
drop_step s i h = rw (add-one, drop-cons s i 0)

pub head_drop : (s : List ℕ) (i : ℕ) → get_or (drop i s) 0 0 ≡ get_or s i 0
head_drop s i = rw (get_or-drop, add-zero)

-- past the end a byte reads as 0, which no rule takes
pub get_d_past : (s : List ℕ) (i : ℕ) → length s ≤ i → get_or s i 0 ≡ 0
get_d_past s i h = get_or-eq_default s 0 h

-- so a byte that is not 0, or passes a test which 0 fails, stands in the text
pub byte_within : (s : List ℕ) (i b : ℕ) → b ≡ get_or s i 0 → 0 < b → i < length s
byte_within s i b e h = elim (dec_lt i (length s)) [ yes l ↦ l | no l ↦ absurd (omega (arith, get_d_past s i (omega arith))) ]

pub such_within : (p : ℕ → Bool) (s : List ℕ) (i b : ℕ) → p 0 ≡ false → b ≡ get_or s i 0 → p b ≡ true → i < length s
such_within p s i b o e h = elim (dec_lt i (length s)) [ yes l ↦ l | no l ↦ absurd (differ p b 0 h o (e ∙ get_d_past s i (omega arith))) ]

-- for a definition that goes by tests, under `unfolding` it: each test has the value that the code found
pub ruleset by_tests = (eq-eqb, ne_eqb, lt-ltb, le-ltb, le-leb, lt-leb, get_d_past)

-- induction from the end of a text backwards: what holds past the end, and at i where it holds at i + 1, holds
-- everywhere
pub back : (n : ℕ) (P : ℕ → Type 0) → ((i : ℕ) → n ≤ i → P i) → ((i : ℕ) → i < n → P (i + 1) → P i) → (i : ℕ) → P i
back n P end step i = go n i (omega arith)
  where
    go : (d j : ℕ) → n ≤ j + d → P j
    go zero j h = end j (omega arith)
    go (suc d) j h = elim (dec_lt j n) [ yes l ↦ step j l (go d (j + 1) (omega arith)) | no l ↦ end j (omega arith) ]

-- the three steps of a longest run
module _ (p : ℕ → Bool) (s : List ℕ) (i : ℕ) where
  pub run_on : i < length s → p (get_or s i 0) ≡ true → run_to p s i ≡ run_to p s (i + 1)
  unfolding run_to run_from
  run_on h e = rw (drop_step s i h, e)

  pub run_stops : i < length s → p (get_or s i 0) ≡ false → run_to p s i ≡ i
  unfolding run_to run_from
  run_stops h e = rw (drop_step s i h, e)

  pub run_ends : length s ≤ i → run_to p s i ≡ i
  unfolding run_to run_from
  run_ends h = rw (drop_of_length-le s h)

-- by them, induction on a run that ends at e: what holds of an empty run, and of a run that is longer by the byte
-- before it
module _ (p : ℕ → Bool) (s : List ℕ) where
  pub run_ind : (P : ℕ → ℕ → Type 0) → ((i : ℕ) → length s ≤ i → P i i) → ((i : ℕ) → i < length s → p (get_or s i 0) ≡ false → P i i) → ((i e : ℕ) → i < length s → p (get_or s i 0) ≡ true → P (i + 1) e → P i e) → (i e : ℕ) → e ≡ run_to p s i → P i e
  run_ind P past out on i e f =
      rw f (back (length s) (λ (j : ℕ). P j (run_to p s j)) (λ j h. rw (run_ends p s j h) (past j h)) (λ j h u. go j h u (p (get_or s j 0)) refl) i)
    where
      go : (j : ℕ) → j < length s → P (j + 1) (run_to p s (j + 1)) → (t : Bool) → p (get_or s j 0) ≡ t → P j (run_to p s j)
      go j h u true e = rw (run_on p s j h e) (on j (run_to p s (j + 1)) h e u)
      go j h u false e = rw (run_stops p s j h e) (out j h e)

  -- what each byte of a run leaves as it is, the run does
  pub run_same : {A : Type 0} (g : ℕ → A) → ((i : ℕ) → i < length s → p (get_or s i 0) ≡ true → g i ≡ g (i + 1)) → (i e : ℕ) → e ≡ run_to p s i → g i ≡ g e
  run_same g same = run_ind (λ (i e : ℕ). g i ≡ g e) (λ i h. refl) (λ i h o. refl) (λ i e h o u. same i h o ∙ u)

  -- so a run of a class goes on behind a run of a part of it
  pub run_behind : (q : ℕ → Bool) → ((b : ℕ) → p b ≡ true → q b ≡ true) → (i e : ℕ) → e ≡ run_to p s i → run_to q s i ≡ run_to q s e
  run_behind q part = run_same (λ (i : ℕ). run_to q s i) (λ i h o. run_on q s i h (part (get_or s i 0) o))

  -- a run goes forward and ends inside; it starts with a byte of it, where it is not empty, and ends at one that is not
  pub run_from_lem : (i e : ℕ) → e ≡ run_to p s i → i ≤ e
  run_from_lem = run_ind (λ (i e : ℕ). i ≤ e) (λ i h. omega arith) (λ i h o. omega arith) (λ i e h o u. omega arith)

  pub run_within : (i e : ℕ) → e ≡ run_to p s i → i ≤ length s → e ≤ length s
  run_within = run_ind (λ (i e : ℕ). i ≤ length s → e ≤ length s) (λ i h l. l) (λ i h o l. l) (λ i e h o u l. u (omega arith))

  pub run_first : (i e : ℕ) → e ≡ run_to p s i → i < e → (i < length s) × (p (get_or s i 0) ≡ true)
  run_first =
      run_ind (λ (i e : ℕ). i < e → (i < length s) × (p (get_or s i 0) ≡ true)) (λ i h l. absurd (omega arith)) (λ i h o l. absurd (omega arith)) (λ i e h o u l. (h, o))

  pub run_out : (i e : ℕ) → e ≡ run_to p s i → e < length s → p (get_or s e 0) ≡ false
  run_out = run_ind (λ (i e : ℕ). e < length s → p (get_or s e 0) ≡ false) (λ i h l. absurd (omega arith)) (λ i h o l. o) (λ i e h o u. u)

-- the rest of a text, as the code lends it on
pub rest_of : (s : List ℕ) (at : ℕ) → take (length s - at) (drop at s) ≡ drop at s
rest_of s at = take_all (length s - at) (drop at s) (rw length-drop (omega arith))
