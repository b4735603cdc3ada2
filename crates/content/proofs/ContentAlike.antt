-- Rule 10's contents without a string, in two texts that share a line.
use Prim.Native.Nat.{ℕ, suc}
use native.Mathlib.Omega.{arith}
use mathlib.Core.Path.{refl}
use mathlib.Core.List.{List}
use lib.ListN.{length}
use Rattle.text.proofs.Alike.{Alike, both_to, then_alike, and_alike, must_alike, maybe_alike, many_alike}
use Rattle.text.proofs.SharedLines.{Shared, told, blanks_alike, account_alike, byte_alike, currency_alike, comma_alike, hard_gap_alike}
use Rattle.text.specs.Refusals.{missing}
use Rattle.amount.proofs.ExpressionAlike.{expression_alike}
use Rattle.content.specs.Contents.{hard_account, tolerance, balance_of, one_currency, further, currencies, pad_of}
use Rattle.content.proofs.ContentEnds.{further_reach}

module _ {Q : Type 0} {s z : List ℕ} {K P : ℕ → ℕ → Type 0} (L : Shared Q s z K P) where
  pub hard_account_alike : {i j : ℕ} → K i j → Alike Q K (hard_account s i) (hard_account z j)
  unfolding hard_account
  hard_account_alike S = and_alike _ _ (must_alike missing _ _ (told L S) (account_alike L S)) (λ a b T. both_to a b _ _ T (λ q. rw (told L S q, told L T q)))

  tolerance_alike : {i j : ℕ} → K i j → Alike Q K (tolerance s i) (tolerance z j)
  unfolding tolerance
  tolerance_alike S =
      and_alike _ _ (byte_alike L 126 refl (blanks_alike L S)) (λ a b T.
      let U = blanks_alike L T in
      then_alike _ _ (expression_alike L U) (λ e f v w W t. both_to e f _ _ W (λ q. rw (told L U q, told L W q, t q))))

  pub balance_of_alike : {i j : ℕ} → K i j → Alike Q K (balance_of s i) (balance_of z j)
  unfolding balance_of
  balance_of_alike S =
      and_alike _ _ (hard_account_alike S) (λ a b T. and_alike _ _ (hard_gap_alike L missing T) (λ c d U.
      then_alike _ _ (must_alike missing _ _ (told L U) (expression_alike L U)) (λ e f v w W t. then_alike _ _ (maybe_alike e f W (tolerance_alike W)) (λ g h x y X u.
      and_alike _ _ (hard_gap_alike L missing X) (λ k l Y. and_alike _ _ (must_alike missing _ _ (told L Y) (currency_alike L Y)) (λ m n Z.
      both_to m n _ _ Z (λ q. rw (told L U q, told L W q, told L Y q, told L Z q, t q, u q))))))))

  pub pad_of_alike : {i j : ℕ} → K i j → Alike Q K (pad_of s i) (pad_of z j)
  unfolding pad_of
  pad_of_alike S = and_alike _ _ (hard_account_alike S) (λ a b T. and_alike _ _ (hard_gap_alike L missing T) (λ c d U. hard_account_alike U))

  one_currency_alike : {i j : ℕ} → K i j → Alike Q K (one_currency s i) (one_currency z j)
  unfolding one_currency
  one_currency_alike S = and_alike _ _ (currency_alike L S) (λ a b T. both_to a b _ _ T (λ q. rw (told L S q, told L T q)))

  further_alike : (i j : ℕ) → K i j → Alike Q K (further s i) (further z j)
  unfolding further
  further_alike i j S = and_alike _ _ (comma_alike L S) (λ a b T. one_currency_alike T)

  pub currencies_alike : {i j : ℕ} → K i j → Alike Q K (currencies s i) (currencies z j)
  unfolding currencies
  currencies_alike S =
      and_alike _ _ (one_currency_alike S) (λ a b T.
      many_alike (length s) (length z) (λ i j U. omega (arith, L.inside i j U)) (further s) (further z) further_alike (further_reach s) (further_reach z)
      (suc (length s)) (suc (length z)) a b T (omega arith) (omega arith))
