-- Where the parts of a transaction end: at or past their start, and within the text, where a refusal stands too.
use Prim.Native.Nat.{ℕ, ◌+◌, ◌≤◌}
use native.Mathlib.Omega.{arith}
use mathlib.Core.List.{List}
use lib.ListN.{length}
use Rattle.text.specs.Bytes.{bytes, is_blank}
use Rattle.text.specs.Run.{blanks}
use Rattle.text.specs.Answer.{must, maybe}
use Rattle.text.specs.Leaves.{gap, line_end, string, tag, link}
use Rattle.text.proofs.Joins.{required, Reach, to_reach, reach_from, must_reach, else_reach, and_reach}
use Rattle.text.proofs.TokenEnds.{run_reach, gap_reach, line_reach, string_reach, tag_reach, link_reach, word_reach}
use Rattle.text.specs.Refusals.{missing}
use Rattle.posting.specs.Metadata.{metadata}
use Rattle.posting.specs.Postings.{flag, body}
use Rattle.posting.proofs.PostingEnds.{optional_reach, repeated_reach, metadata_reach, flag_reach, body_reach}
use Rattle.transaction.specs.Transaction.{opening, texts, mark, marks, transaction}

module _ (s : List ℕ) where
  abbrev N : ℕ
  N = length s

  pub opening_reach : (at : ℕ) → at ≤ N → Reach N at (opening s at)
  unfolding opening
  opening_reach at h =
      else_reach N at _ _
      (and_reach N (at + 1) at (flag s at) _ (flag_reach s at) (λ e p q. to_reach N at e _ (omega arith) q))
      (reach_from N (at + length (bytes "txn")) at _ (omega arith) (word_reach s at h (bytes "txn")))

  pub texts_reach : (at : ℕ) → at ≤ N → Reach N (at + 1) (texts s at)
  unfolding texts
  texts_reach at h =
      and_reach N (at + 1) (at + 1) (gap s at) _ (gap_reach s at h) (λ a p₁ q₁.
      and_reach N (a + 1) (at + 1) (string s a) _ (string_reach s a) (λ e p₂ q₂.
      else_reach N (at + 1) _ _
      (and_reach N (e + 1) (at + 1) (gap s e) _ (gap_reach s e q₂) (λ b p₃ q₃.
      and_reach N (b + 1) (at + 1) (string s b) _ (string_reach s b) (λ f p₄ q₄. to_reach N (at + 1) f _ (omega arith) q₄)))
      (to_reach N (at + 1) e _ (omega arith) q₂)))

  pub mark_reach : (at : ℕ) → at ≤ N → Reach N (at + 1) (mark s at)
  unfolding mark
  mark_reach at h =
      let b = blanks s at in
      let r = run_reach is_blank s at h in
      else_reach N (at + 1) _ _
      (and_reach N (b + 1) (at + 1) (tag s b) _ (tag_reach s b) (λ e p q. to_reach N (at + 1) e _ (omega arith) q))
      (and_reach N (b + 1) (at + 1) (link s b) _ (link_reach s b) (λ e p q. to_reach N (at + 1) e _ (omega arith) q))

  pub marks_reach : (at : ℕ) → at ≤ N → Reach N at (marks s at)
  unfolding marks
  marks_reach at h = repeated_reach N (mark s) mark_reach at h

  pub transaction_reach : (at : ℕ) → at ≤ N → Reach N at (transaction s at)
  unfolding transaction
  transaction_reach at h =
      and_reach N at at (opening s at) _ (opening_reach at h) (λ a p₁ q₁.
      and_reach N a at (maybe a (texts s a)) _ (optional_reach N a _ q₁ (texts_reach a q₁)) (λ b p₂ q₂.
      and_reach N b at (marks s b) _ (marks_reach b q₂) (λ c p₃ q₃.
      and_reach N c at (must missing c (line_end s c)) _ (must_reach N c required c _ q₃ (line_reach s c q₃)) (λ d p₄ q₄.
      and_reach N d at (metadata s d) _ (metadata_reach s d q₄) (λ e p₅ q₅.
      reach_from N e at (body s e) (omega arith) (body_reach s e q₅))))))
