-- What the test of a block says.
use Prim.Native.Nat.{ℕ, ◌+◌, ◌-◌, ◌≤◌}
use native.Mathlib.Omega.{arith}
use mathlib.Core.Path.{◌≡◌, refl}
use mathlib.Core.Bool.{Bool, true, false, ◌||◌}
use mathlib.Core.Logic.{◌⊎◌, inl, inr, ⊎_elim}
use mathlib.Core.List.{List}
use borrow.Author.Tests.{eqb-true}
use lib.Dec.{eqb}
use lib.ListN.{length, get_or, drop, length-drop}
use Rattle.text.proofs.TestLaws.{and_left, and_right}
use Rattle.text.proofs.Steps.{such_within}
use Rattle.text.specs.Boundaries.{is_start, cuts}
use Rattle.entry.proofs.StringsLaws.{start_zero}
use Rattle.recovery.specs.Recovering.{block_length}
use Rattle.recovery.proofs.BlockLaws.{block_le, cut_is}
use Rattle.edit.specs.Edits.{is_block}

pub or_cases : (x y : Bool) → (x || y) ≡ true → (x ≡ true) ⊎ (y ≡ true)
or_cases true y e = inl refl
or_cases false y e = inr e

module _ (s : List ℕ) (a e : ℕ) (g : is_block s a e ≡ true) where
  abbrev boundary : Bool
  boundary = cuts (get_or s (a - 1) 0) (get_or s a 0)

  pub block_starts : (a ≡ 0) ⊎ (boundary ≡ true)
  unfolding is_block
  block_starts =
      ⊎_elim (λ (z : eqb a 0 ≡ true). inl (eqb-true a 0 z)) (λ (z : boundary ≡ true). inr z)
      (or_cases (eqb a 0) boundary (and_left (eqb a 0 || boundary) (eqb e (a + block_length (drop a s))) g))

  pub block_ends : e ≡ a + block_length (drop a s)
  unfolding is_block
  block_ends = eqb-true e (a + block_length (drop a s)) (and_right (eqb a 0 || boundary) (eqb e (a + block_length (drop a s))) g)

  start_in : a ≤ length s
  start_in =
      ⊎_elim (λ (z : a ≡ 0). omega arith)
      (λ (z : boundary ≡ true). omega (arith, such_within is_start s a (get_or s a 0) start_zero refl (cut_is (get_or s (a - 1) 0) (get_or s a 0) z).1))
      block_starts

  pub block_bounds : (a ≤ e) × (e ≤ length s)
  block_bounds = (omega (arith, block_ends), omega (arith, block_ends, start_in, block_le (drop a s), length-drop a s))
