-- The answers at a posting's flag and gap.
use Rattle.std.specs.Prelude.{None, Option}
use Prim.Native.Nat.{ℕ, ◌+◌, ◌≤◌}
use mathlib.Core.Path.{◌≡◌, refl}
use mathlib.Core.Bool.{Bool, true, false, cond, not, ◌&&◌}
use mathlib.Core.List.{List}
use lib.Dec.{eqb}
use borrow.Author.Tests.{ne_eqb, not-true}
use lib.ListN.{length, get_or}
use Rattle.text.specs.Bytes.{is_small}
use Rattle.text.specs.Lines.{gap_at}
use Rattle.text.proofs.TestLaws.{and_right}
use Rattle.text.proofs.Steps.{get_d_past}
use Rattle.posting.specs.Postings.{is_flag}
use Rattle.posting.specs.steps.Parts.{flag_gap}

pub flag_not_small : (b : ℕ) → is_flag b ≡ true → is_small b ≡ false
unfolding is_flag
flag_not_small b e = not-true (is_small b) (and_right (not (eqb b 0)) (not (is_small b)) e)

module _ (s : List ℕ) (at : ℕ) where
  pub flag_none : get_or s at 0 ≡ 0 → None ≡ flag_gap s at
  unfolding flag_gap is_flag
  flag_none h = rw h

  pub flag_small : {b : Bool} → b ≡ is_small (get_or s at 0) → b ≡ true → None ≡ flag_gap s at
  unfolding flag_gap is_flag
  flag_small e h = rw (← e, h) (go (eqb (get_or s at 0) 0))
    where
      go : (c : Bool) → None ≡ cond (not c && not true) (gap_at s (at + 1)) None
      go true = refl
      go false = refl

  pub flag_gap_lem : {b : Bool} {r : Option ℕ} → (get_or s at 0 ≡ 0 → ⊥) → b ≡ is_small (get_or s at 0) → b ≡ false → r ≡ gap_at s (at + 1) → r ≡ flag_gap s at
  unfolding flag_gap is_flag
  flag_gap_lem n e h v = rw (ne_eqb _ _ n, ← e, h) v

  pub flag_past : length s ≤ at → None ≡ flag_gap s at
  unfolding flag_gap is_flag
  flag_past h = rw (get_d_past s at h)

pub ruleset flag_laws = (flag_none, flag_small, flag_gap_lem, flag_past)
