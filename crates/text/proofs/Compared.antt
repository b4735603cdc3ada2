-- Words and the shape of a date: both are compared with a text byte by byte, so their laws are said once.
use Prim.Native.Nat.{ℕ, ◌≤◌}
use native.Mathlib.Omega.{arith}
use mathlib.Core.Path.{◌≡◌, refl, sym, ◌∙◌}
use mathlib.Core.Bool.{Bool, true, false, ◌&&◌, cond}
use mathlib.Core.List.{List, [], ◌∷◌}
use borrow.Author.Tests.{ne_eqb, eqb-false}
use lib.Dec.{eqb}
use lib.ListN.{length}
use Rattle.text.specs.Bytes.{is_digit}
use Rattle.text.specs.Words.{starts_with}
use Rattle.text.specs.Dates.{as_shape, like_shape}
use Rattle.text.proofs.TestLaws.{absurd_bool, and_right}

-- m w r compares w with the start of r: a byte c of w takes certain bytes, and a line feed only if it is one
pub record Compares (m : List ℕ → List ℕ → Bool) : Type 0 where
  pub takes : ℕ → ℕ → Bool
  pub none : (r : List ℕ) → m [] r ≡ true
  pub short : (c : ℕ) (w : List ℕ) → m (c ∷ w) [] ≡ false
  pub step : (c : ℕ) (w : List ℕ) (x : ℕ) (r : List ℕ) → m (c ∷ w) (x ∷ r) ≡ (takes c x && m w r)
  pub no_lf : (c : ℕ) → eqb c 10 ≡ false → takes c 10 ≡ false

other : (c : ℕ) → eqb c 10 ≡ false → eqb 10 c ≡ false
other c n = ne_eqb 10 c (λ e. eqb-false c 10 n (sym e))

pub word_compares : Compares starts_with
unfolding starts_with
word_compares = record { takes = λ c x. eqb x c; none = λ r. refl; short = λ c w. refl; step = λ c w x r. refl; no_lf = other }

pub shape_compares : Compares like_shape
unfolding like_shape as_shape is_digit
shape_compares = record { takes = as_shape; none = λ r. refl; short = λ c w. refl; step = λ c w x r. refl; no_lf = λ c n. go c n (eqb c 48) }
  where
    go : (c : ℕ) → eqb c 10 ≡ false → (b : Bool) → cond b (is_digit 10) (eqb 10 c) ≡ false
    go c n true = refl
    go c n false = other c n

module _ (m : List ℕ → List ℕ → Bool) (C : Compares m) where
  -- what starts with w is as long as w
  pub compared_length : (w r : List ℕ) → m w r ≡ true → length w ≤ length r
  compared_length [] r e = omega arith
  compared_length (c ∷ w) [] e = absurd_bool (sym (C.short c w) ∙ e)
  compared_length (c ∷ w) (x ∷ r) e = omega (arith, compared_length w r (and_right (C.takes c x) (m w r) (sym (C.step c w x r) ∙ e)))
