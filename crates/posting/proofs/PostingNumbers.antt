-- What refuses a value of a posting's line, its price or its cost has number 6, 7 or 8, at any place: past the end of a
-- text no gap is read.
use Prim.Native.Nat.{ℕ, ◌≤◌}
use native.Mathlib.Decide.{dec_lt}
use native.Mathlib.Omega.{arith}
use mathlib.Core.Path.{◌≡◌, refl}
use mathlib.Core.List.{List, []}
use borrow.Author.Tests.{le-ltb}
use lib.ListN.{length, drop, drop_of_length-le}
use Rattle.text.specs.Run.{run_to, run_from}
use Rattle.text.specs.Lines.{gap_at}
use Rattle.text.specs.Answer.{Miss, ◌and◌}
use Rattle.text.specs.Leaves.{token, gap}
use Rattle.amount.proofs.ValueSizes.{ReadNumbered}
use Rattle.amount.proofs.RowCounts.{part_kinds, unflagged, fits_numbered, gap_bare}
use Rattle.amount.proofs.AmountNumbers.{and_numbered, maybe_numbered, bare_numbered}
use Rattle.posting.specs.Postings.{posting_line}
use Rattle.posting.specs.steps.Lots.{optional_price, optional_cost}
use Rattle.posting.proofs.PostingFew.{price_fits, cost_fits, posting_line_fits}

module _ (s : List ℕ) (at : ℕ) where
  pub optional_price_numbered : ReadNumbered (optional_price s at)
  unfolding optional_price
  optional_price_numbered = maybe_numbered at _ (and_numbered _ _ (bare_numbered _ (gap_bare s at)) (λ g. fits_numbered part_kinds s g _ (price_fits s g)))

  pub optional_cost_numbered : ReadNumbered (optional_cost s at)
  unfolding optional_cost
  optional_cost_numbered = maybe_numbered at _ (and_numbered _ _ (bare_numbered _ (gap_bare s at)) (λ g. fits_numbered part_kinds s g _ (cost_fits s g)))

  past_line : length s ≤ at → posting_line s at ≡ Miss
  unfolding posting_line gap gap_at run_to run_from token ◌and◌
  past_line h = let e : drop at s ≡ [] = drop_of_length-le s h in rw (e, le-ltb at at (omega arith)) refl

  pub posting_line_numbered : ReadNumbered (posting_line s at)
  posting_line_numbered =
      elim (dec_lt (length s) at) [
        | yes h ↦ rw (past_line (omega arith)) (record { holds = tt })
        | no h ↦ fits_numbered unflagged s at _ (posting_line_fits s at (omega arith))
      ]
