-- The answers at a mark and a run.
use Rattle.std.specs.Prelude.{None, Some}
use Prim.Native.Nat.{ℕ, ◌+◌, ◌≤◌, ◌<◌}
use native.Mathlib.Omega.{arith}
use mathlib.Core.Path.{◌≡◌}
use mathlib.Core.Bool.{Bool}
use mathlib.Core.List.{List}
use borrow.Author.Tests.{eq-eqb, ne_eqb}
use lib.ListN.{length, get_or}
use Rattle.text.specs.Run.{run_to}
use Rattle.text.specs.Tags.{marked_at}
use Rattle.text.proofs.Steps.{get_d_past}

module _ (m : ℕ) (p : ℕ → Bool) (s : List ℕ) (at : ℕ) where
  pub marked_read : (e : ℕ) → get_or s at 0 ≡ m → e ≡ run_to p s (at + 1) → Some e ≡ marked_at m p s at
  unfolding marked_at
  marked_read e h v = rw (eq-eqb _ _ h, v)

  pub marked_no : (get_or s at 0 ≡ m → ⊥) → None ≡ marked_at m p s at
  unfolding marked_at
  marked_no h = rw (ne_eqb _ _ h)

  pub marked_past : length s ≤ at → 0 < m → None ≡ marked_at m p s at
  unfolding marked_at
  marked_past h l = rw (get_d_past s at h, ne_eqb 0 m (omega arith))

pub ruleset marked_laws = (marked_read, marked_no, marked_past)
