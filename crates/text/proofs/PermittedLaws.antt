-- The answers at bytes that a ledger may hold, each from what the code knows where it gives it.
use Prim.Native.Nat.{ℕ, zero, suc, ◌+◌, ◌≤◌, ◌<◌, min}
use native.Mathlib.Omega.{arith}
use mathlib.Core.Path.{◌≡◌, refl, sym, ◌∙◌}
use mathlib.Core.Bool.{Bool, true, false, cond}
use mathlib.Core.List.{List, [], ◌∷◌}
use borrow.Author.Tests.{ne_eqb, le-leb, lt-leb, leb-true, leb-false}
use lib.Dec.{leb, eqb}
use lib.ListN.{length, drop, get_or}
use Rattle.text.specs.Permitted.{permitted, clean}
use Rattle.text.proofs.TestLaws.{absurd_bool}
use Rattle.text.proofs.Steps.{drop_step, head_drop}

-- a byte b before the byte n
module _ (b n : ℕ) where
  pub shown : 32 ≤ b → leb b 126 ≡ permitted b n
  unfolding permitted
  shown h = rw (le-leb 32 b h)

  pub feed : b ≡ 10 → true ≡ permitted b n
  unfolding permitted
  feed e = rw e

  pub tab : b ≡ 9 → true ≡ permitted b n
  unfolding permitted
  tab e = rw e

  pub return : (r : ℕ) → b ≡ 13 → r ≡ n → eqb r 10 ≡ permitted b n
  unfolding permitted
  return r e u = rw (e, u)

  pub barred : b < 32 → (b ≡ 10 → ⊥) → (b ≡ 9 → ⊥) → (b ≡ 13 → ⊥) → false ≡ permitted b n
  unfolding permitted
  barred h e f g = rw (lt-leb 32 b h, ne_eqb _ _ f, ne_eqb _ _ e, ne_eqb _ _ g)

-- The loop over the bytes before `to`: those before i may stand, and those that may in what is left make up the answer
-- a; r is what the code's test gave of the byte at i.
module _ (a : ℕ) (s : List ℕ) (i to : ℕ) (v : i + clean (drop i s) ≡ a) (h : i < to) (l : to ≤ length s) where
  pub clean_on : (r : Bool) → r ≡ permitted (get_or s i 0) (get_or s (i + 1) 0) → r ≡ true → i + 1 + clean (drop (i + 1) s) ≡ a
  unfolding clean
  clean_on r e t = omega (arith, rw (drop_step s i (omega arith), head_drop s (i + 1), sym e ∙ t) at v)

  pub clean_stop : (r : Bool) → r ≡ permitted (get_or s i 0) (get_or s (i + 1) 0) → r ≡ false → i ≡ min a to
  unfolding clean
  clean_stop r e t = omega (arith, rw (drop_step s i (omega arith), head_drop s (i + 1), sym e ∙ t) at v)

-- ---- a text of which no byte is refused holds bytes

permitted_low : (b n : ℕ) → permitted b n ≡ true → b < 256
permitted_low b n e = go (leb b 126) refl
  where
    go : (t : Bool) → leb b 126 ≡ t → b < 256
    go true f = omega (arith, leb-true b 126 f)
    go false f = let l = leb-false b 126 f in absurd_bool (sym f ∙ shown b n (omega arith) ∙ e)

pub clean_bytes : (s : List ℕ) → length s ≤ clean s → (i : ℕ) → get_or s i 0 < 256
unfolding clean
clean_bytes [] h i = omega arith
clean_bytes (b ∷ s) h i = go (permitted b (get_or s 0 0)) refl h i (clean_bytes s)
  where
    go : (t : Bool) → permitted b (get_or s 0 0) ≡ t → suc (length s) ≤ cond t (suc (clean s)) 0 → (i : ℕ) → (length s ≤ clean s → (j : ℕ) → get_or s j 0 < 256) → get_or (b ∷ s) i 0 < 256
    go true e h zero f = permitted_low b (get_or s 0 0) e
    go true e h (suc i) f = f (omega arith) i
    go false e h i f = absurd (omega arith)

pub ruleset stand_laws = (shown, feed, tab, return, barred)

pub ruleset clean_laws = (clean_on, clean_stop)
