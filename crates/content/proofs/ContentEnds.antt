-- Where contents of directives end: past their start, and within the text, where a refusal stands too.
use Prim.Native.Nat.{ℕ, suc, ◌+◌, ◌≤◌}
use native.Mathlib.Omega.{arith}
use mathlib.Core.List.{List}
use lib.ListN.{length}
use Rattle.text.specs.Bytes.{is_blank}
use Rattle.text.specs.Run.{blanks}
use Rattle.text.specs.Answer.{must, maybe, many}
use Rattle.text.specs.Leaves.{currency, byte, comma, hard_gap}
use Rattle.text.specs.Accounts.{account}
use Rattle.text.proofs.Joins.{required, Reach, to_reach, reach_from, must_reach, then_reach, and_reach}
use Rattle.text.proofs.TokenEnds.{run_reach, account_reach, currency_reach, byte_reach, comma_reach, hard_gap_reach}
use Rattle.text.specs.Refusals.{missing}
use Rattle.amount.specs.Expression.{expression}
use Rattle.amount.proofs.ExpressionEnds.{expression_reach}
use Rattle.amount.proofs.AmountLaws.{quoted_reach}
use Rattle.posting.proofs.PostingEnds.{optional_reach, repeated_reach, spaced_reach}
use Rattle.content.specs.Contents.{hard_account, hard_string, tolerance, balance_of, one_currency, further, currencies, booking, open_of, pad_of, event_of}

module _ (s : List ℕ) where
  abbrev N : ℕ
  N = length s

  pub hard_account_reach : (at : ℕ) → at ≤ N → Reach N (at + 1) (hard_account s at)
  unfolding hard_account
  hard_account_reach at h =
      and_reach N (at + 1) (at + 1) (must missing at (account s at)) _ (must_reach N (at + 1) required at _ h (account_reach s at)) (λ e p q. to_reach N (at + 1) e _ p q)

  pub hard_string_reach : (at : ℕ) → at ≤ N → Reach N (at + 1) (hard_string s at)
  unfolding hard_string
  hard_string_reach at h = must_reach N (at + 1) required at _ h (quoted_reach s _ at)

  pub tolerance_reach : (at : ℕ) → at ≤ N → Reach N (at + 1) (tolerance s at)
  unfolding tolerance
  tolerance_reach at h =
      let r = run_reach is_blank s at h in
      and_reach N (blanks s at + 1) (at + 1) (byte 126 s (blanks s at)) _ (byte_reach s (blanks s at) 126 (omega arith)) (λ i p₁ q₁.
      let b = blanks s i in
      let w = run_reach is_blank s i q₁ in
      then_reach N (b + 1) (at + 1) (expression s b) _ (expression_reach s b) (λ e v p₂ q₂. to_reach N (at + 1) e _ (omega arith) q₂))

  pub balance_of_reach : (at : ℕ) → at ≤ N → Reach N (at + 1) (balance_of s at)
  unfolding balance_of
  balance_of_reach at h =
      and_reach N (at + 1) (at + 1) (hard_account s at) _ (hard_account_reach at h) (λ a p₁ q₁.
      and_reach N (a + 1) (at + 1) (hard_gap missing s a) _ (hard_gap_reach s a required q₁) (λ g p₂ q₂.
      then_reach N (g + 1) (at + 1) (must missing g (expression s g)) _ (must_reach N (g + 1) required g _ q₂ (expression_reach s g)) (λ e v p₃ q₃.
      then_reach N e (at + 1) (maybe e (tolerance s e)) _ (optional_reach N e _ q₃ (tolerance_reach e q₃)) (λ t ts p₄ q₄.
      and_reach N (t + 1) (at + 1) (hard_gap missing s t) _ (hard_gap_reach s t required q₄) (λ c p₅ q₅.
      and_reach N (c + 1) (at + 1) (must missing c (currency s c)) _ (must_reach N (c + 1) required c _ q₅ (currency_reach s c)) (λ d p₆ q₆.
      to_reach N (at + 1) d _ (omega arith) q₆))))))

  pub one_currency_reach : (at : ℕ) → Reach N (at + 1) (one_currency s at)
  unfolding one_currency
  one_currency_reach at = and_reach N (at + 1) (at + 1) (currency s at) _ (currency_reach s at) (λ e p q. to_reach N (at + 1) e _ p q)

  pub further_reach : (at : ℕ) → at ≤ N → Reach N (at + 1) (further s at)
  unfolding further
  further_reach at h =
      and_reach N (at + 1) (at + 1) (comma s at) _ (comma_reach s at h) (λ j p q.
      reach_from N (j + 1) (at + 1) (one_currency s j) (omega arith) (one_currency_reach j))

  pub currencies_reach : (at : ℕ) → Reach N (at + 1) (currencies s at)
  unfolding currencies
  currencies_reach at =
      and_reach N (at + 1) (at + 1) (one_currency s at) _ (one_currency_reach at) (λ e p q.
      reach_from N e (at + 1) (many (further s) (suc N) e) p (repeated_reach N (further s) further_reach e q))

  pub booking_reach : (at : ℕ) → at ≤ N → Reach N (at + 1) (booking s at)
  unfolding booking
  booking_reach at h = spaced_reach s _ (quoted_reach s _) at h

  pub open_of_reach : (at : ℕ) → at ≤ N → Reach N (at + 1) (open_of s at)
  unfolding open_of
  open_of_reach at h =
      and_reach N (at + 1) (at + 1) (hard_account s at) _ (hard_account_reach at h) (λ a p₁ q₁.
      and_reach N a (at + 1) (maybe a _) _ (optional_reach N a _ q₁ (spaced_reach s (currencies s) currencies_reach a q₁)) (λ c p₂ q₂.
      reach_from N c (at + 1) (maybe c (booking s c)) (omega arith) (optional_reach N c _ q₂ (booking_reach c q₂))))

  pub pad_of_reach : (at : ℕ) → at ≤ N → Reach N (at + 1) (pad_of s at)
  unfolding pad_of
  pad_of_reach at h =
      and_reach N (at + 1) (at + 1) (hard_account s at) _ (hard_account_reach at h) (λ a p₁ q₁.
      and_reach N (a + 1) (at + 1) (hard_gap missing s a) _ (hard_gap_reach s a required q₁) (λ g p₂ q₂.
      reach_from N (g + 1) (at + 1) (hard_account s g) (omega arith) (hard_account_reach g q₂)))

  pub event_of_reach : (at : ℕ) → at ≤ N → Reach N (at + 1) (event_of s at)
  unfolding event_of
  event_of_reach at h =
      and_reach N (at + 1) (at + 1) (hard_string s at) _ (hard_string_reach at h) (λ a p₁ q₁.
      and_reach N (a + 1) (at + 1) (hard_gap missing s a) _ (hard_gap_reach s a required q₁) (λ g p₂ q₂.
      reach_from N (g + 1) (at + 1) (hard_string s g) (omega arith) (hard_string_reach g q₂)))
