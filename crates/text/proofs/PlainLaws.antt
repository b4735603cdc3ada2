-- Chunks of a text that are plain, and what they say of the bytes that may stand.
use Prim.Native.Nat.{ℕ, zero, suc, ◌+◌, ◌-◌, ◌≤◌, ◌<◌, min, zero-le}
use native.Mathlib.Omega.{arith}
use mathlib.Core.Path.{◌≡◌, refl, sym, ◌∙◌}
use mathlib.Core.Bool.{Bool, true, false, cond, ◌&&◌, ◌||◌, and-true, and_assoc}
use mathlib.Core.List.{List, [], ◌∷◌}
use borrow.Author.Tests.{leb-true, eqb-true}
use lib.Dec.{leb, eqb}
use lib.ListN.{length, take, drop, get_or, length-drop, drop_of_length-le}
use lib.Seq.{drop-drop}
use Rattle.text.specs.Permitted.{permitted, clean}
use Rattle.text.specs.steps.Stretch.{is_plain, all_plain}
use Rattle.text.proofs.TestLaws.{absurd_bool, and_left, and_right}
use Rattle.text.proofs.Steps.{drop_step}
use Rattle.text.proofs.PermittedLaws.{shown, feed, tab}

plain_stands : (b n : ℕ) → is_plain b ≡ true → permitted b n ≡ true
unfolding is_plain
plain_stands b n e = go (leb 32 b) (leb b 126) (eqb b 10) (eqb b 9) refl refl refl refl e
  where
    go : (p q f t : Bool) → leb 32 b ≡ p → leb b 126 ≡ q → eqb b 10 ≡ f → eqb b 9 ≡ t → (p && q || f || t) ≡ true → permitted b n ≡ true
    go p q true t hp hq hf ht e = sym (feed b n (eqb-true b 10 hf))
    go p q false true hp hq hf ht e = sym (tab b n (eqb-true b 9 ht))
    go true true false false hp hq hf ht e = sym (shown b n (leb-true 32 b hp)) ∙ hq
    go true false false false hp hq hf ht e = absurd_bool e
    go false q false false hp hq hf ht e = absurd_bool e

-- ---- the code's loop over a chunk of `size` bytes

pub chunk_start : (s : List ℕ) (at size : ℕ) → (true && all_plain (drop 0 (take (at + size - at) (drop at s)))) ≡ all_plain (take size (drop at s))
chunk_start s at size = let e : at + size - at ≡ size = omega arith in rw e

-- what is left of the chunk from place i of it on makes up the answer w; r is what the code's test gave of the byte there
module _ (s : List ℕ) (i : ℕ) (all : Bool) {w : Bool} (v : (all && all_plain (drop i s)) ≡ w) where
  pub chunk_on : (r : Bool) → i < length s → r ≡ is_plain (get_or s i 0) → (all && r && all_plain (drop (i + 1) s)) ≡ w
  unfolding all_plain
  chunk_on r h e = rw (e, and_assoc) (rw (drop_step s i h) at v)

  pub chunk_end : length s ≤ i → all ≡ w
  unfolding all_plain
  chunk_end h = sym (and-true all) ∙ rw (drop_of_length-le s h) at v

pub ruleset chunk_laws = (chunk_start, chunk_on, chunk_end)

-- ---- the text as a whole

pub clean_le : (s : List ℕ) → clean s ≤ length s
unfolding clean
clean_le [] = zero-le
clean_le (b ∷ s) = go (permitted b (get_or s 0 0)) (clean_le s)
  where
    go : (t : Bool) → clean s ≤ length s → cond t (suc (clean s)) 0 ≤ suc (length s)
    go true h = omega arith
    go false h = omega arith

plain_clean : (k : ℕ) (s : List ℕ) → k ≤ length s → all_plain (take k s) ≡ true → k ≤ clean s
unfolding clean all_plain
plain_clean zero s h e = zero-le
plain_clean (suc k) [] h e = absurd (omega arith)
plain_clean (suc k) (b ∷ s) h e =
    let t = all_plain (take k s) in
    rw (plain_stands b (get_or s 0 0) (and_left (is_plain b) t e)) (omega (arith, plain_clean k s (omega arith) (and_right (is_plain b) t e)))

clean_rest : (k : ℕ) (s : List ℕ) → k ≤ clean s → k + clean (drop k s) ≡ clean s
unfolding clean
clean_rest zero s h = omega arith
clean_rest (suc k) [] h = absurd (omega arith)
clean_rest (suc k) (b ∷ s) h = go (permitted b (get_or s 0 0)) h (λ (l : k ≤ clean s). clean_rest k s l)
  where
    go : (t : Bool) → suc k ≤ cond t (suc (clean s)) 0 → (k ≤ clean s → k + clean (drop k s) ≡ clean s) → suc k + clean (drop k s) ≡ cond t (suc (clean s)) 0
    go true h f = omega (arith, f (omega arith))
    go false h f = absurd (omega arith)

-- place i was reached, and what is left makes up the answer a
module _ (a : ℕ) (s : List ℕ) (i : ℕ) (v : i + clean (drop i s) ≡ a) where
  passed : (k : ℕ) → k ≤ clean (drop i s) → i + k + clean (drop (i + k) s) ≡ a
  passed k h = omega (arith, rw (drop-drop k i s) at (clean_rest k (drop i s) h))

  -- a plain chunk is passed, and so is one whose bytes may all stand
  pub chunk_plain : (r : Bool) → 64 ≤ length s - i → r ≡ all_plain (take 64 (drop i s)) → r ≡ true → i + 64 + clean (drop (i + 64) s) ≡ a
  chunk_plain r h e t = passed 64 (plain_clean 64 (drop i s) (rw length-drop h) (sym e ∙ t))

  pub chunk_clean : (e : ℕ) → e ≡ min (i + clean (drop i s)) (i + 64) → i + 64 ≤ e → i + 64 + clean (drop (i + 64) s) ≡ a
  chunk_clean e u h = passed 64 (omega arith)

  -- in one whose bytes may not, and after the last chunk, the answer stands
  pub chunk_bad : (e : ℕ) → e ≡ min (i + clean (drop i s)) (i + 64) → e < i + 64 → e ≡ a
  chunk_bad e u h = omega arith

  pub last_bytes : (e : ℕ) → i ≤ length s → e ≡ min (i + clean (drop i s)) (length s) → e ≡ a
  last_bytes e h u = omega (arith, rw length-drop at (clean_le (drop i s)))

pub ruleset prefix_laws = (chunk_plain, chunk_clean, chunk_bad, last_bytes)
