-- What reads a string misses in the line that the two texts share: so for the readers that may.
use Prim.Native.Nat.{ℕ}
use mathlib.Core.Path.{◌≡◌, refl}
use mathlib.Core.Bool.{false}
use mathlib.Core.List.{List}
use lib.Dec.{eqb}
use lib.ListN.{get_or}
use Rattle.text.specs.Run.{blanks}
use Rattle.text.specs.Strings.{string_at}
use Rattle.text.specs.Leaves.{token, string}
use Rattle.text.proofs.Alike.{both_miss, both_to, and_alike, else_alike, maybe_alike, must_alike}
use Rattle.text.proofs.SharedLines.{byte_alike, byte_same, empty_alike, gap_alike, hard_gap_alike, gap_at_lem, line_alike, told}
use Rattle.text.specs.Refusals.{missing}
use Rattle.amount.specs.declared.detail.Detail.{Detail}
use Rattle.amount.specs.Details.{quoted}
use Rattle.posting.specs.Metadata.{value, meta_line, meta_step}
use Rattle.posting.specs.Postings.{posting_line}
use Rattle.posting.proofs.PostingAlike.{key_alike, posting_line_alike, unquoted_alike}
use Rattle.content.specs.Contents.{hard_string, booking, open_of, event_of}
use Rattle.content.proofs.ContentAlike.{currencies_alike, hard_account_alike}
use Rattle.layout.proofs.QuietLines.{LineTwin, Spot, Twin, quiet, spot_quote}

module _ {s z : List ℕ} where
  string_twin : {i j : ℕ} → Spot s z i j → Twin {A = List Detail} s z (string s i) (string z j)
  unfolding string string_at token
  string_twin S = rw (byte_same quiet S, spot_quote S) both_miss

  pub quoted_twin : {i j : ℕ} (f g : ℕ → ℕ → Detail) → Spot s z i j → Twin s z (quoted f s i) (quoted g z j)
  unfolding quoted
  quoted_twin f g S = and_alike _ _ (string_twin S) (λ a b P. both_to a b _ _ P (λ q. absurd q))

  -- ---- metadata and postings

  value_twin : {k l c d i j : ℕ} → Spot s z k l → Spot s z c d → Spot s z i j → Twin s z (value k c s i) (value l d z j)
  unfolding value
  value_twin A C S = else_alike (quoted_twin _ _ S) (unquoted_alike quiet A C S)

  meta_line_twin : {i j : ℕ} → Spot s z i j → LineTwin (meta_line s i) (meta_line z j)
  unfolding meta_line
  meta_line_twin S =
      and_alike _ _ (gap_alike quiet S) (λ a b P. and_alike _ _ (key_alike quiet P) (λ c d Q. and_alike _ _ (byte_alike quiet 58 refl Q) (λ e f R. and_alike _ _ (gap_alike quiet R) (λ g h U.
      and_alike _ _ (value_twin P Q U) (λ k l W. line_alike quiet W)))))

  pub meta_step_twin : {i j : ℕ} → Spot s z i j → LineTwin (meta_step s i) (meta_step z j)
  unfolding meta_step
  meta_step_twin S = else_alike (meta_line_twin S) (empty_alike quiet S)

  -- past the gap in front stands no line feed
  pub posting_twin : {i j : ℕ} → Spot s z i j → eqb (get_or s (blanks s i) 0) 10 ≡ false → LineTwin (posting_line s i) (posting_line z j)
  posting_twin {i} {j} S e = posting_line_alike quiet i j (gap_at_lem quiet S) (λ a b P. (P.0, gap_alike quiet (quiet.next a b P.0 (rw P.1 e))))

  -- ---- contents

  pub string_must : {i j : ℕ} → Spot s z i j → Twin s z (hard_string s i) (hard_string z j)
  unfolding hard_string
  string_must S = must_alike missing _ _ (told quiet S) (quoted_twin _ _ S)

  pub event_of_twin : {i j : ℕ} → Spot s z i j → Twin s z (event_of s i) (event_of z j)
  unfolding event_of
  event_of_twin S = and_alike _ _ (string_must S) (λ a b P. and_alike _ _ (hard_gap_alike quiet missing P) (λ c d Q. string_must Q))

  pub open_of_twin : {i j : ℕ} → Spot s z i j → Twin s z (open_of s i) (open_of z j)
  unfolding open_of booking
  open_of_twin S = and_alike _ _ (hard_account_alike quiet S) (λ a b P.
      and_alike _ _ (maybe_alike a b P (and_alike _ _ (gap_alike quiet P) (λ c d Q. currencies_alike quiet Q))) (λ c d Q.
      maybe_alike c d Q (and_alike _ _ (gap_alike quiet Q) (λ e f R. quoted_twin _ _ R))))
