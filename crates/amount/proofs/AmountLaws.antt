-- Rule 10: where amounts and strings end and refuse, and that two texts which share a line have the same.
use Prim.Native.Nat.{ℕ, ◌+◌, ◌≤◌}
use mathlib.Core.List.{List}
use native.Mathlib.Omega.{arith}
use lib.ListN.{length}
use Rattle.text.specs.Answer.{must}
use Rattle.text.specs.Leaves.{gap, currency, string, hard_gap}
use Rattle.text.proofs.Joins.{required, Reach, to_reach, reach_from, must_reach, then_reach, and_reach}
use Rattle.text.proofs.Alike.{Alike, both_to, then_alike, and_alike, must_alike}
use Rattle.text.proofs.TokenEnds.{gap_reach, currency_reach, string_reach, hard_gap_reach}
use Rattle.text.proofs.SharedLines.{Shared, told, gap_alike, currency_alike, hard_gap_alike}
use Rattle.amount.specs.declared.detail.Detail.{Detail}
use Rattle.amount.specs.Details.{quoted}
use Rattle.text.specs.Refusals.{missing}
use Rattle.amount.specs.Expression.{expression}
use Rattle.amount.specs.Amounts.{amount, hard_currency, hard_amount, price_of}
use Rattle.amount.proofs.ExpressionEnds.{expression_reach}
use Rattle.amount.proofs.ExpressionAlike.{expression_alike}

-- ---- they end past their start and within the text, and refuse within it

module _ (s : List ℕ) where
  abbrev N : ℕ
  N = length s

  pub amount_reach : (k at : ℕ) → Reach N (at + 1) (amount k s at)
  unfolding amount
  amount_reach k at =
      then_reach N (at + 1) (at + 1) (expression s at) _ (expression_reach s at) (λ e v p q.
      and_reach N (e + 1) (at + 1) (gap s e) _ (gap_reach s e q) (λ c p₂ q₂.
      and_reach N (c + 1) (at + 1) (currency s c) _ (currency_reach s c) (λ d p₃ q₃. to_reach N (at + 1) d _ (omega arith) q₃)))

  pub quoted_reach : (row : ℕ → ℕ → Detail) (at : ℕ) → Reach N (at + 1) (quoted row s at)
  unfolding quoted
  quoted_reach row at = and_reach N (at + 1) (at + 1) (string s at) _ (string_reach s at) (λ e p q. to_reach N (at + 1) e _ p q)

  pub hard_currency_reach : (at : ℕ) → at ≤ N → Reach N (at + 1) (hard_currency s at)
  unfolding hard_currency
  hard_currency_reach at h =
      and_reach N (at + 1) (at + 1) (must missing at (currency s at)) _ (must_reach N (at + 1) required at (currency s at) h (currency_reach s at)) (λ e p q. to_reach N (at + 1) e _ p q)

  pub hard_amount_reach : (k at : ℕ) → at ≤ N → Reach N (at + 1) (hard_amount k s at)
  unfolding hard_amount
  hard_amount_reach k at h =
      then_reach N (at + 1) (at + 1) (must missing at (expression s at)) _ (must_reach N (at + 1) required at _ h (expression_reach s at)) (λ e v p q.
      and_reach N (e + 1) (at + 1) (hard_gap missing s e) _ (hard_gap_reach s e required q) (λ c p₂ q₂.
      and_reach N (c + 1) (at + 1) (must missing c (currency s c)) _ (must_reach N (c + 1) required c _ q₂ (currency_reach s c)) (λ d p₃ q₃. to_reach N (at + 1) d _ (omega arith) q₃)))

  pub price_of_reach : (at : ℕ) → at ≤ N → Reach N (at + 1) (price_of s at)
  unfolding price_of
  price_of_reach at h =
      and_reach N (at + 1) (at + 1) (hard_currency s at) _ (hard_currency_reach at h) (λ e p q.
      and_reach N (e + 1) (at + 1) (hard_gap missing s e) _ (hard_gap_reach s e required q) (λ g p₂ q₂.
      reach_from N (g + 1) (at + 1) (hard_amount 26 s g) (omega arith) (hard_amount_reach 26 g q₂)))

-- ---- they are read alike in two texts that share a line

module _ {Q : Type 0} {s z : List ℕ} {K P : ℕ → ℕ → Type 0} (L : Shared Q s z K P) where
  pub amount_alike : (k : ℕ) {i j : ℕ} → K i j → Alike Q K (amount k s i) (amount k z j)
  unfolding amount
  amount_alike k S =
      then_alike _ _ (expression_alike L S) (λ e f v w T t. and_alike _ _ (gap_alike L T) (λ c d U. and_alike _ _ (currency_alike L U) (λ a b W.
      both_to a b _ _ W (λ q. rw (told L S q, told L T q, told L U q, told L W q, t q)))))

  pub hard_currency_alike : {i j : ℕ} → K i j → Alike Q K (hard_currency s i) (hard_currency z j)
  unfolding hard_currency
  hard_currency_alike S = and_alike _ _ (must_alike missing _ _ (told L S) (currency_alike L S)) (λ e f T. both_to e f _ _ T (λ q. rw (told L S q, told L T q)))

  hard_amount_alike : (k : ℕ) {i j : ℕ} → K i j → Alike Q K (hard_amount k s i) (hard_amount k z j)
  unfolding hard_amount
  hard_amount_alike k S =
      then_alike _ _ (must_alike missing _ _ (told L S) (expression_alike L S)) (λ e f v w T t. and_alike _ _ (hard_gap_alike L missing T) (λ c d U.
      and_alike _ _ (must_alike missing _ _ (told L U) (currency_alike L U)) (λ a b W. both_to a b _ _ W (λ q. rw (told L S q, told L T q, told L U q, told L W q, t q)))))

  pub price_of_alike : {i j : ℕ} → K i j → Alike Q K (price_of s i) (price_of z j)
  unfolding price_of
  price_of_alike S = and_alike _ _ (hard_currency_alike S) (λ e f T. and_alike _ _ (hard_gap_alike L missing T) (λ c d U. hard_amount_alike 26 U))
