-- Rule 10: the rows of amounts stand in order within their bytes, and are no more than these.
use Prim.Native.Nat.{ℕ, ◌+◌, ◌≤◌, ◌<◌}
use native.Mathlib.Omega.{arith}
use mathlib.Core.List.{List}
use lib.ListN.{length}
use Rattle.text.specs.Answer.{must}
use Rattle.text.specs.Leaves.{gap, hard_gap, currency}
use Rattle.text.proofs.Joins.{required, must_reach}
use Rattle.text.proofs.Inversions.{must_inv}
use Rattle.text.proofs.TokenEnds.{gap_reach, currency_reach, hard_gap_reach}
use Rattle.text.specs.Refusals.{missing}
use Rattle.amount.specs.Expression.{expression}
use Rattle.amount.specs.Amounts.{amount, hard_currency, hard_amount, price_of}
use Rattle.amount.proofs.ExpressionEnds.{expression_reach}
use Rattle.amount.proofs.AmountLaws.{hard_currency_reach}
use Rattle.amount.proofs.ValueSizes.{read_small}
use Rattle.amount.proofs.RowCounts.{Kinds, posting_kind, Of, span_filled, valued_filled, FitsFrom, Fits, fits_from, row_fits, then_read, and_fits, must_bare, bare_and, gap_bare, hard_gap_bare, currency_bare}

module _ (s : List ℕ) where
  abbrev N : ℕ
  N = length s

  -- an amount's row is no posting's
  pub amount_fits : {K : Kinds} (k at : ℕ) → Of K k × (k < posting_kind) → FitsFrom K s at (amount k s at)
  unfolding amount
  amount_fits k at h =
      then_read N (at + 1) at (expression s at) _ (expression_reach s at) (λ e v w p₁ q₁.
      bare_and N (e + 1) at (gap s e) _ (gap_reach s e q₁) (gap_bare s e) (λ c p₂ q₂.
      bare_and N (c + 1) at (currency s c) _ (currency_reach s c) (currency_bare s c) (λ d p₃ q₃.
      row_fits at d _ (valued_filled (λ z. omega arith) q₂ q₃ (read_small s at e v w)) (omega arith))))

  pub hard_currency_fits : (at : ℕ) → at ≤ N → Fits s at (hard_currency s at)
  unfolding hard_currency
  hard_currency_fits at h =
      bare_and N (at + 1) at (must missing at (currency s at)) _ (must_reach N (at + 1) required at _ h (currency_reach s at)) (must_bare missing at _ (currency_bare s at)) (λ e p q.
      row_fits at e _ span_filled (omega arith))

  pub hard_amount_fits : {K : Kinds} (k at : ℕ) → at ≤ N → Of K k × (k < posting_kind) → FitsFrom K s at (hard_amount k s at)
  unfolding hard_amount
  hard_amount_fits k at i h =
      then_read N (at + 1) at (must missing at (expression s at)) _ (must_reach N (at + 1) required at _ i (expression_reach s at)) (λ e v w p₁ q₁.
      bare_and N (e + 1) at (hard_gap missing s e) _ (hard_gap_reach s e required q₁) (hard_gap_bare s e missing) (λ c p₂ q₂.
      bare_and N (c + 1) at (must missing c (currency s c)) _ (must_reach N (c + 1) required c _ q₂ (currency_reach s c)) (must_bare missing c _ (currency_bare s c)) (λ d p₃ q₃.
      row_fits at d _ (valued_filled (λ z. omega arith) q₂ q₃ (read_small s at e v (must_inv missing at (expression s at) e v w))) (omega arith))))

  pub price_of_fits : (at : ℕ) → at ≤ N → Fits s at (price_of s at)
  unfolding price_of
  price_of_fits at h =
      and_fits N (at + 1) at (hard_currency s at) _ (hard_currency_reach s at h) (hard_currency_fits at h) (λ e p₁ q₁.
      bare_and N (e + 1) e (hard_gap missing s e) _ (hard_gap_reach s e required q₁) (hard_gap_bare s e missing) (λ g p₂ q₂.
      fits_from g e _ (omega arith) (hard_amount_fits 26 g q₂ (omega arith))))
