-- Rules 12 and 13, and what no string is of rule 16, in two texts that share a line.
use Prim.Native.Nat.{ℕ, ◌+◌}
use mathlib.Core.Path.{◌≡◌, refl}
use mathlib.Core.Bool.{false}
use mathlib.Core.List.{List, [], ◌∷◌}
use lib.ListN.{get_or}
use Rattle.text.specs.Bytes.{is_small, in_tag}
use Rattle.text.specs.Answer.{To, ◌then◌, ◌and◌, ◌else◌}
use Rattle.text.specs.Leaves.{gap, currency}
use Rattle.text.proofs.InLine.{no_lf}
use Rattle.text.proofs.Alike.{Alike, both_to, then_alike, and_alike, else_alike, maybe_alike, if_alike}
use Rattle.text.proofs.SharedLines.{Shared, byte_same, told, blanks_alike, gap_alike, line_alike, account_alike, byte_alike, currency_alike, started_alike, comma_alike, date_alike}
use Rattle.amount.specs.declared.detail.Detail.{Detail}
use Rattle.amount.specs.Details.{Rows, named, valued}
use Rattle.amount.specs.Expression.{expression}
use Rattle.amount.proofs.ExpressionAlike.{expression_alike}
use Rattle.amount.proofs.AmountLaws.{amount_alike}
use Rattle.posting.specs.Metadata.{key_at, key}
use Rattle.posting.specs.Costs.{price, inside, cost}
use Rattle.posting.specs.Postings.{is_flag, flag, posting_flag, units, posting_line}

small_lf : is_small 10 ≡ false
unfolding is_small
small_lf = refl

-- a value that is no string
abbrev pub unquoted : ℕ → ℕ → List ℕ → ℕ → Rows
unquoted k c s at = (expression s at then λ e v. To e (valued 36 k c at e v ∷ [])) else (currency s at and λ e. To e (named 37 k c at e ∷ []))

module _ {Q : Type 0} {s z : List ℕ} {K P : ℕ → ℕ → Type 0} (L : Shared Q s z K P) where
  -- ---- rule 16's key and values

  pub key_alike : {i j : ℕ} → K i j → Alike Q K (key s i) (key z j)
  unfolding key key_at
  key_alike S = started_alike L is_small in_tag small_lf no_lf.tag S

  pub unquoted_alike : {k l c d i j : ℕ} → K k l → K c d → K i j → Alike Q K (unquoted k c s i) (unquoted l d z j)
  unquoted_alike A C S =
      else_alike (then_alike _ _ (expression_alike L S) (λ e f v w T t. both_to e f _ _ T (λ q. rw (told L A q, told L C q, told L S q, told L T q, t q))))
      (and_alike _ _ (currency_alike L S) (λ e f T. both_to e f _ _ T (λ q. rw (told L A q, told L C q, told L S q, told L T q))))

  -- ---- rule 12's price

  price_alike : {i j : ℕ} → K i j → Alike Q K (price s i) (price z j)
  unfolding price
  price_alike S =
      else_alike (and_alike _ _ (byte_alike L 64 refl S) (λ a b T. and_alike _ _ (gap_alike L T) (λ c d U. amount_alike L 29 U)))
      (and_alike _ _ (byte_alike L 64 refl S) (λ a b T. and_alike _ _ (byte_alike L 64 refl T) (λ c d U. and_alike _ _ (gap_alike L U) (λ e f W. amount_alike L 30 W))))

  -- ---- rule 13

  inside_alike : {i j : ℕ} → K i j → Alike Q K (inside s i) (inside z j)
  unfolding inside
  inside_alike {i} {j} S =
      else_alike (then_alike _ _ (amount_alike L 26 S) (λ a b x y T t. then_alike _ _ (comma_alike L T) (λ c d _ _ U _. then_alike _ _ (date_alike L U) (λ e f v w W u.
      both_to e f _ _ W (λ q. rw (t q, u q))))))
      (else_alike (then_alike _ _ (date_alike L S) (λ a b v w T t. then_alike _ _ (comma_alike L T) (λ c d _ _ U _. then_alike _ _ (amount_alike L 26 U) (λ e f x y W u.
      both_to e f _ _ W (λ q. rw (t q, u q))))))
      (else_alike (then_alike _ _ (amount_alike L 26 S) (λ a b x y T t. both_to a b _ _ T (λ q. rw (t q))))
      (else_alike (then_alike _ _ (date_alike L S) (λ a b v w T t. both_to a b _ _ T (λ q. rw (t q)))) (both_to i j _ _ S (λ _. refl)))))

  cost_alike : {i j : ℕ} → K i j → Alike Q K (cost s i) (cost z j)
  unfolding cost
  cost_alike S =
      and_alike _ _ (byte_alike L 123 refl S) (λ a b T. then_alike _ _ (inside_alike (blanks_alike L T)) (λ c d x y U t.
      and_alike _ _ (byte_alike L 125 refl (blanks_alike L U)) (λ e f W. both_to e f _ _ W (λ q. rw (told L S q, told L W q, t q)))))

  -- ---- rule 12

  -- a flag may be the line feed
  pub flag_alike : {M : ℕ → ℕ → Type 0} {i j : ℕ} → K i j → M (i + 1) (j + 1) → Alike Q M (flag s i) (flag z j)
  unfolding flag
  flag_alike {M} {i} {j} S m = rw (byte_same L S) (if_alike (is_flag (get_or s i 0)) _ _ (λ _. both_to (i + 1) (j + 1) [] [] m (λ _. refl)))

  posting_flag_alike : {i j : ℕ} → K i j → Alike {A = List ℕ} Q K (gap s (i + 1)) (gap z (j + 1)) → Alike Q K (posting_flag s i) (posting_flag z j)
  unfolding posting_flag
  posting_flag_alike {i} {j} S G =
      rw (byte_same L S)
      (else_alike (then_alike _ _ (flag_alike {M = λ a b. (a ≡ i + 1) × (b ≡ j + 1)} S (refl, refl)) (λ a b _ _ E _.
      rw (E.0, E.1) (then_alike _ _ G (λ c d _ _ T _. both_to c d _ _ T (λ _. refl)))))
      (both_to i j 0 0 S (λ _. refl)))

  units_alike : {i j : ℕ} → K i j → Alike Q K (units s i) (units z j)
  unfolding units
  units_alike S =
      and_alike _ _ (gap_alike L S) (λ a b T. and_alike _ _ (amount_alike L 26 T) (λ c d U.
      and_alike _ _ (maybe_alike c d U (and_alike _ _ (gap_alike L U) (λ e f W. cost_alike W))) (λ e f W. maybe_alike e f W (and_alike _ _ (gap_alike L W) (λ g h X. price_alike X)))))

  -- where the gap in front is read alike, and one behind a flag
  pub posting_line_alike : {M : ℕ → ℕ → Type 0} (i j : ℕ) → Alike {A = List Detail} Q M (gap s i) (gap z j)
      → ((a b : ℕ) → M a b → K a b × Alike {A = List ℕ} Q K (gap s (a + 1)) (gap z (b + 1))) → Alike Q P (posting_line s i) (posting_line z j)
  unfolding posting_line
  posting_line_alike i j G f =
      and_alike _ _ G (λ g h m. then_alike _ _ (posting_flag_alike (f g h m).0 (f g h m).1) (λ a b v w T t. and_alike _ _ (account_alike L T) (λ c d U.
      and_alike _ _ (both_to c d _ _ U (λ q. rw (told L T q, told L U q, t q))) (λ c d U. and_alike _ _ (maybe_alike c d U (units_alike U)) (λ e f W. line_alike L W)))))
