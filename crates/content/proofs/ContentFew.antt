-- Rule 10: the rows of contents stand in order within their bytes, and are no more than these.
use Rattle.text.specs.declared.stop.Cause.{Cause}
use Prim.Native.Nat.{ℕ, suc, ◌+◌, ◌≤◌}
use native.Mathlib.Omega.{arith}
use mathlib.Core.List.{List}
use lib.ListN.{length}
use Rattle.text.specs.Bytes.{is_blank}
use Rattle.text.specs.Run.{blanks}
use Rattle.text.specs.Answer.{◌and◌, must, maybe}
use Rattle.text.specs.Leaves.{currency, byte, comma, hard_gap}
use Rattle.text.specs.Accounts.{account}
use Rattle.text.proofs.Joins.{Listed, required, must_reach}
use Rattle.text.proofs.Inversions.{must_inv}
use Rattle.text.proofs.TokenEnds.{run_reach, account_reach, currency_reach, byte_reach, comma_reach, hard_gap_reach}
use Rattle.amount.specs.Details.{Rows, span, quoted}
use Rattle.text.specs.Refusals.{missing}
use Rattle.amount.specs.Expression.{expression}
use Rattle.amount.proofs.ExpressionEnds.{expression_reach}
use Rattle.amount.proofs.AmountNumbers.{one_numbered, and_numbered, bare_numbered}
use Rattle.amount.proofs.ValueSizes.{ReadNumbered, read_small}
use Rattle.amount.proofs.RowCounts.{unflagged, Of, span_filled, valued_filled, placed_wide, Fits, to_fits, fits_from, must_fits, row_fits, then_rows, then_read, and_fits, maybe_fits, many_fits, must_bare, bare_and, account_bare, currency_bare, byte_bare, comma_bare, quoted_fits, hard_gap_bare}
use Rattle.posting.proofs.PostingEnds.{optional_reach, spaced_reach}
use Rattle.posting.proofs.PostingFew.{spaced_fits}
use Rattle.content.specs.Contents.{hard_account, hard_string, tolerance, balance_of, one_currency, further, currencies, booking, open_of, pad_of, event_of}
use Rattle.content.proofs.ContentEnds.{hard_account_reach, hard_string_reach, tolerance_reach, one_currency_reach, further_reach, currencies_reach}

module _ (s : List ℕ) where
  abbrev N : ℕ
  N = length s

  -- a required gap before rows
  pub hard_gap_and : {n : Cause} (w : Listed n) (k at : ℕ) (f : ℕ → Rows) → at ≤ N → ((g : ℕ) → at + 1 ≤ g → g ≤ N → Fits s k (f g)) → Fits s k (hard_gap n s at and f)
  hard_gap_and {n} w k at f h u = bare_and N (at + 1) k (hard_gap n s at) f (hard_gap_reach s at w h) (hard_gap_bare s at n) u

  pub hard_account_fits : (at : ℕ) → at ≤ N → Fits s at (hard_account s at)
  unfolding hard_account
  hard_account_fits at h =
      bare_and N (at + 1) at (must missing at (account s at)) _ (must_reach N (at + 1) required at _ h (account_reach s at)) (must_bare missing at _ (account_bare s at)) (λ e p q.
      row_fits at e _ span_filled (omega arith))

  -- at any place, what refuses a value of it
  pub hard_account_numbered : (at : ℕ) → ReadNumbered (hard_account s at)
  unfolding hard_account
  hard_account_numbered at = and_numbered _ _ (bare_numbered _ (must_bare missing at _ (account_bare s at))) (λ e. one_numbered e _ tt)

  -- a string whose row is a span
  pub text_fits : (k at : ℕ) → Of unflagged k → Fits s at (quoted (span k) s at)
  text_fits k at h = quoted_fits s (span k) at at (λ m e p q. (omega arith, span_filled, omega arith)) (omega arith)

  pub hard_string_fits : (at : ℕ) → Fits s at (hard_string s at)
  unfolding hard_string
  hard_string_fits at = must_fits at missing at _ (text_fits 34 at (omega arith))

  pub tolerance_fits : (at : ℕ) → at ≤ N → Fits s at (tolerance s at)
  unfolding tolerance
  tolerance_fits at h =
      let r = run_reach is_blank s at h in
      bare_and N (blanks s at + 1) at (byte 126 s (blanks s at)) _ (byte_reach s (blanks s at) 126 (omega arith)) (byte_bare s (blanks s at) 126) (λ i p₁ q₁.
      let b = blanks s i in
      let w = run_reach is_blank s i q₁ in
      then_read N (b + 1) at (expression s b) _ (expression_reach s b) (λ e v x p₂ q₂.
      row_fits at e _ (valued_filled (λ z. omega arith) (omega arith) (omega arith) (read_small s b e v x)) (omega arith)))

  pub balance_of_fits : (at : ℕ) → at ≤ N → Fits s at (balance_of s at)
  unfolding balance_of
  balance_of_fits at h =
      and_fits N (at + 1) at (hard_account s at) _ (hard_account_reach s at h) (hard_account_fits at h) (λ a p₁ q₁.
      hard_gap_and required a a _ q₁ (λ g p₂ q₂.
      then_read N (g + 1) a (must missing g (expression s g)) _ (must_reach N (g + 1) required g _ q₂ (expression_reach s g)) (λ e v x p₃ q₃.
      then_rows _ N e e a (maybe e (tolerance s e)) _ (optional_reach N e _ q₃ (tolerance_reach s e q₃)) (maybe_fits e _ (tolerance_fits e q₃)) (λ t ts p₄ q₄ r₄.
      hard_gap_and required a t _ q₄ (λ c p₅ q₅.
      bare_and N (c + 1) a (must missing c (currency s c)) _ (must_reach N (c + 1) required c _ q₅ (currency_reach s c)) (must_bare missing c _ (currency_bare s c)) (λ d p₆ q₆.
      to_fits a d _ (
        (
          omega arith,
          valued_filled (λ z. omega arith) q₅ q₆ (read_small s g e v (must_inv missing g (expression s g) e v x)),
          (placed_wide unflagged unflagged s e t g d ts (omega arith) (omega arith) (omega arith) r₄).0,
        ),
        omega arith,
      )))))))

  pub one_currency_fits : (at : ℕ) → Fits s at (one_currency s at)
  unfolding one_currency
  one_currency_fits at = bare_and N (at + 1) at (currency s at) _ (currency_reach s at) (currency_bare s at) (λ e p q.
      row_fits at e _ span_filled (omega arith))

  pub further_fits : (at : ℕ) → at ≤ N → Fits s at (further s at)
  unfolding further
  further_fits at h = bare_and N (at + 1) at (comma s at) _ (comma_reach s at h) (comma_bare s at) (λ j p q. fits_from j at _ (omega arith) (one_currency_fits j))

  pub currencies_fits : (at : ℕ) → Fits s at (currencies s at)
  unfolding currencies
  currencies_fits at =
      and_fits N (at + 1) at (one_currency s at) _ (one_currency_reach s at) (one_currency_fits at) (λ e p q.
      many_fits N (further s) (further_reach s) further_fits (suc N) e q)

  pub booking_fits : (at : ℕ) → at ≤ N → Fits s at (booking s at)
  unfolding booking
  booking_fits at h = spaced_fits s _ (λ i. text_fits 32 i (omega arith)) at h

  pub open_of_fits : (at : ℕ) → at ≤ N → Fits s at (open_of s at)
  unfolding open_of
  open_of_fits at h =
      and_fits N (at + 1) at (hard_account s at) _ (hard_account_reach s at h) (hard_account_fits at h) (λ a p₁ q₁.
      and_fits N a a (maybe a _) _ (optional_reach N a _ q₁ (spaced_reach s (currencies s) (currencies_reach s) a q₁))
      (maybe_fits a _ (spaced_fits s (currencies s) currencies_fits a q₁)) (λ c p₂ q₂. maybe_fits c _ (booking_fits c q₂)))

  pub pad_of_fits : (at : ℕ) → at ≤ N → Fits s at (pad_of s at)
  unfolding pad_of
  pad_of_fits at h =
      and_fits N (at + 1) at (hard_account s at) _ (hard_account_reach s at h) (hard_account_fits at h) (λ a p₁ q₁.
      hard_gap_and required a a _ q₁ (λ g p₂ q₂. fits_from g a _ (omega arith) (hard_account_fits g q₂)))

  pub event_of_fits : (at : ℕ) → at ≤ N → Fits s at (event_of s at)
  unfolding event_of
  event_of_fits at h =
      and_fits N (at + 1) at (hard_string s at) _ (hard_string_reach s at h) (hard_string_fits at) (λ a p₁ q₁.
      hard_gap_and required a a _ q₁ (λ g p₂ q₂. fits_from g a _ (omega arith) (hard_string_fits g)))
