-- Rule 11: the rows of a transaction's parts stand in order within their bytes, and are no more than these.
use Prim.Native.Nat.{ℕ, suc, ◌+◌, ◌≤◌}
use native.Mathlib.Omega.{arith}
use mathlib.Core.List.{List}
use lib.ListN.{length}
use Rattle.text.specs.Bytes.{bytes, is_blank}
use Rattle.text.specs.Run.{blanks}
use Rattle.text.proofs.Joins.{reach_from}
use Rattle.text.proofs.TokenEnds.{run_reach, string_reach, tag_reach, link_reach, word_reach}
use Rattle.amount.proofs.RowCounts.{head_kinds, part_kinds, span_filled, FitsFrom, to_fits, else_fits, row_fits, many_fits, bare_fits, bare_and, word_bare, string_and, tag_and, link_and}
use Rattle.posting.specs.Postings.{flag}
use Rattle.posting.proofs.PostingEnds.{flag_reach}
use Rattle.posting.proofs.PostingFew.{gap_and, flag_bare}
use Rattle.transaction.specs.Transaction.{opening, texts, mark, marks}
use Rattle.transaction.proofs.TransactionEnds.{mark_reach}

module _ (s : List ℕ) where
  abbrev N : ℕ
  N = length s

  pub opening_fits : (at : ℕ) → at ≤ N → FitsFrom head_kinds s at (opening s at)
  unfolding opening
  opening_fits at h =
      else_fits at _ _
      (bare_and N (at + 1) at (flag s at) _ (flag_reach s at) (flag_bare s at) (λ e p q. row_fits at e _ span_filled (omega arith)))
      (bare_fits N at _ (reach_from N (at + length (bytes "txn")) at _ (omega arith) (word_reach s at h (bytes "txn"))) (word_bare s at (bytes "txn")))

  pub texts_fits : (at : ℕ) → at ≤ N → FitsFrom part_kinds s at (texts s at)
  unfolding texts
  texts_fits at h =
      gap_and s at at _ h (λ a p₁ q₁.
      string_and s N at a _
      (λ m₁ e p₂ q₂.
      else_fits at _ _
      (gap_and s at e _ q₂ (λ b p₃ q₃. string_and s N at b _ (λ m₂ f p₄ q₄.
      to_fits at f _ ((omega arith, span_filled, (omega arith, span_filled, omega arith)), omega arith)) (string_reach s b)))
      (row_fits at e _ span_filled (omega arith)))
      (string_reach s a))

  pub mark_fits : (at : ℕ) → at ≤ N → FitsFrom part_kinds s at (mark s at)
  unfolding mark
  mark_fits at h =
      let b = blanks s at in
      let r = run_reach is_blank s at h in
      else_fits at _ _
      (tag_and s N at b _ (λ m e p q. row_fits at e _ span_filled (omega arith)) (tag_reach s b))
      (link_and s N at b _ (λ m e p q. row_fits at e _ span_filled (omega arith)) (link_reach s b))

  pub marks_fits : (at : ℕ) → at ≤ N → FitsFrom part_kinds s at (marks s at)
  unfolding marks
  marks_fits at h = many_fits N (mark s) (mark_reach s) mark_fits (suc N) at h
