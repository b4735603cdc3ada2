-- The tests of a block and of new bytes, from what the code knows.
use Prim.Native.Nat.{ℕ, suc, ◌+◌, ◌-◌, ◌≤◌, ◌<◌, ◌^◌}
use native.Mathlib.Omega.{arith}
use mathlib.Core.Path.{◌≡◌, refl, sym, ◌∙◌, ap}
use mathlib.Core.Bool.{Bool, true, false, cond, ◌||◌, ◌&&◌}
use mathlib.Core.List.{List, [], ◌∷◌}
use borrow.Author.Tests.{eq-eqb, ne_eqb}
use lib.Dec.{eqb}
use lib.ListN.{length, get_or, take, drop, length-drop}
use mir.Syntax.{w64}
use mir.Val.{Fits}
use Rattle.text.proofs.Steps.{get_d_past, rest_of}
use Rattle.text.specs.Boundaries.{is_start, cuts}
use Rattle.entry.proofs.StringsLaws.{start_zero}
use Rattle.recovery.specs.Recovering.{block_length}
use Rattle.recovery.proofs.BlockLaws.{block_le}
use Rattle.recovery.specs.Demand3.{starts_tail, ends_line}
use Rattle.edit.specs.Edits.{is_block, is_new}

module _ (s : List ℕ) (a : ℕ) where
  pub start_first : a ≡ 0 → true ≡ (eqb a 0 || cuts (get_or s (a - 1) 0) (get_or s a 0))
  start_first z = rw (eq-eqb a 0 z)

  module _ (h : a ≡ 0 → ⊥) (b : ℕ) (eb : b ≡ get_or s (a - 1) 0) where
    pub start_other : (b ≡ 10 → ⊥) → false ≡ (eqb a 0 || cuts (get_or s (a - 1) 0) (get_or s a 0))
    start_other n = rw (ne_eqb a 0 h, ← eb, ne_eqb b 10 n)

    pub start_line : b ≡ 10 → (c : ℕ) (r : Bool) → c ≡ get_or s a 0 → r ≡ is_start c → r ≡ (eqb a 0 || cuts (get_or s (a - 1) 0) (get_or s a 0))
    start_line n c r ec er = er ∙ rw (ec, ne_eqb a 0 h, ← eb, n)

pub ruleset start_laws = (start_first, start_other, start_line)

module _ (s : List ℕ) (a e : ℕ) where
  pub block_past : length s < a → false ≡ is_block s a e
  unfolding is_block
  block_past h = rw (ne_eqb a 0 (λ z. omega arith), get_d_past s a (omega arith), start_zero) (go (eqb (get_or s (a - 1) 0) 10) (eqb e (a + block_length (drop a s))))
    where
      go : (x y : Bool) → false ≡ (cond x false false && y)
      go true y = refl
      go false y = refl

  module _ (n : ℕ) (en : n ≡ block_length (take (length s - a) (drop a s))) where
    n_is : n ≡ block_length (drop a s)
    n_is = en ∙ ap block_length (rest_of s a)

    pub block_fits : a ≤ length s → length s < 2 ^ 64 → Fits w64 (a + n)
    block_fits h l = record { fits = omega (arith, n_is, block_le (drop a s), length-drop a s) }

    pub block_other : (e ≡ a + n → ⊥) → false ≡ is_block s a e
    unfolding is_block
    block_other h = rw (← n_is, ne_eqb e (a + n) h) (go (eqb a 0 || cuts (get_or s (a - 1) 0) (get_or s a 0)))
      where
        go : (x : Bool) → false ≡ (x && false)
        go true = refl
        go false = refl

    pub block_here : e ≡ a + n → (r : Bool) → r ≡ (eqb a 0 || cuts (get_or s (a - 1) 0) (get_or s a 0)) → r ≡ is_block s a e
    unfolding is_block
    block_here h r er = er ∙ rw (← n_is, eq-eqb e (a + n) h) (go (eqb a 0 || cuts (get_or s (a - 1) 0) (get_or s a 0)))
      where
        go : (x : Bool) → x ≡ (x && true)
        go true = refl
        go false = refl

pub ruleset block_laws = (block_past, block_fits, block_other, block_here)

-- ---- new bytes

pub well_first : (a : ℕ) (y : List ℕ) → a ≡ 0 → true ≡ (eqb a 0 || starts_tail y)
well_first a y z = rw (eq-eqb a 0 z)

module _ (a : ℕ) (h : a ≡ 0 → ⊥) where
  pub well_none : (y : List ℕ) → length y ≤ 0 → false ≡ (eqb a 0 || starts_tail y)
  unfolding starts_tail
  well_none [] z = rw (ne_eqb a 0 h)
  well_none (b ∷ y) z = absurd (omega arith)

  pub well_start : (y : List ℕ) (r : Bool) → 0 < length y → r ≡ is_start (get_or y 0 0) → r ≡ (eqb a 0 || starts_tail y)
  unfolding starts_tail
  well_start [] r z e = absurd (omega arith)
  well_start (b ∷ y) r z e = e ∙ rw (ne_eqb a 0 h)

ends_last : (y : List ℕ) → 0 < length y → ends_line y ≡ eqb (get_or y (length y - 1) 0) 10
unfolding ends_line
ends_last [] h = absurd (omega arith)
ends_last (b ∷ []) h = refl
ends_last (b ∷ c ∷ y) h = let k : suc (suc (length y)) - 1 ≡ suc (suc (length y) - 1) = omega arith in rw k (ends_last (c ∷ y) (omega arith))

pub end_last : (l : Bool) (y : List ℕ) → l ≡ true → true ≡ (l || ends_line y)
end_last l y e = rw e

pub end_none : (l : Bool) (y : List ℕ) → l ≡ false → length y ≤ 0 → true ≡ (l || ends_line y)
unfolding ends_line
end_none l [] e h = rw e
end_none l (b ∷ y) e h = absurd (omega arith)

pub end_byte : (l : Bool) (y : List ℕ) → l ≡ false → 0 < length y → eqb (get_or y (length y - 1) 0) 10 ≡ (l || ends_line y)
end_byte l y e h = rw e (sym (ends_last y h))

pub ruleset well_laws = (well_first, well_none, well_start, end_last, end_none, end_byte)

module _ (s : List ℕ) (a e : ℕ) (y : List ℕ) where
  pub new_none : length y ≡ 0 → true ≡ is_new s a e y
  unfolding is_new
  new_none h = rw (eq-eqb (length y) 0 h)

  module _ (h : length y ≡ 0 → ⊥) (b : Bool) (eb : b ≡ (eqb a 0 || starts_tail y)) where
    pub new_other : b ≡ false → false ≡ is_new s a e y
    unfolding is_new
    new_other z = rw (ne_eqb (length y) 0 h, ← eb, z)

    pub new_end : b ≡ true → (r : Bool) → r ≡ (eqb e (length s) || ends_line y) → r ≡ is_new s a e y
    unfolding is_new
    new_end z r er = er ∙ rw (ne_eqb (length y) 0 h, ← eb, z)

pub ruleset new_laws = (new_none, new_other, new_end)
