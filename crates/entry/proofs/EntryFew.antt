-- Rules 4, 14 and 15: rows stand in order within their bytes, and are no more than these.
use Prim.Native.Nat.{ℕ, ◌+◌, ◌≤◌}
use Prim.Native.String.{String}
use native.Mathlib.Omega.{arith}
use mathlib.Core.List.{List}
use lib.ListN.{length}
use Rattle.text.specs.Bytes.{bytes}
use Rattle.text.specs.Answer.{◌and◌}
use Rattle.text.specs.Leaves.{line_end, word}
use Rattle.text.proofs.Joins.{word_gap, Reach}
use Rattle.text.proofs.TokenEnds.{line_reach, tag_reach, word_reach}
use Rattle.amount.specs.Details.{Rows, quoted}
use Rattle.text.specs.Refusals.{missing}
use Rattle.amount.proofs.RowCounts.{span_filled, Fits, fits_from, fits_wide, must_fits, row_fits, and_fits, bare_and, word_bare, tag_and}
use Rattle.amount.proofs.AmountLaws.{quoted_reach}
use Rattle.posting.proofs.PostingFew.{line_fits, gap_and, metadata_fits}
use Rattle.content.specs.Contents.{hard_string}
use Rattle.entry.specs.Directive.{keyword, option, include, tagged}
use Rattle.content.proofs.ContentEnds.{hard_string_reach}
use Rattle.content.proofs.ContentFew.{text_fits, hard_string_fits, hard_gap_and}

module _ (s : List ℕ) where
  abbrev N : ℕ
  N = length s

  -- a word before rows
  word_and : (w : String) (k at : ℕ) (f : ℕ → Rows) → at ≤ N → ((e : ℕ) → at ≤ e → e ≤ N → Fits s k (f e)) → Fits s k (word (bytes w) s at and f)
  word_and w k at f h u =
      bare_and N (at + length (bytes w)) k (word (bytes w) s at) f (word_reach s at h (bytes w)) (word_bare s at (bytes w)) (λ e p q. u e (omega arith) q)

  -- ---- rules 4, 14 and 15

  pub keyword_fits : (w : String) (content : List ℕ → ℕ → Rows) → ((g : ℕ) → g ≤ N → Reach N (g + 1) (content s g)) → ((g : ℕ) → g ≤ N → Fits s g (content s g))
      → (at : ℕ) → at ≤ N → Fits s at (keyword w content s at)
  unfolding keyword
  keyword_fits w content r u at h =
      word_and w at at _ h (λ e p₁ q₁.
      hard_gap_and s word_gap at e _ q₁ (λ g p₂ q₂.
      fits_from g at _ (omega arith)
      (and_fits N (g + 1) g (content s g) _ (r g q₂) (u g q₂) (λ m p₃ q₃.
      and_fits N m m (line_end s m) _ (line_reach s m q₃) (line_fits s m q₃) (λ l p₄ q₄. fits_wide _ l _ (omega arith) (metadata_fits s l q₄))))))

  -- the rows of these come after the entry's first byte, which is left for the entry's own row
  pub option_fits : (at : ℕ) → at ≤ N → Fits s (at + 1) (option s at)
  unfolding option
  option_fits at h =
      word_and "option" (at + 1) at _ h (λ a p₁ q₁.
      gap_and s (at + 1) a _ q₁ (λ b p₂ q₂.
      fits_from b (at + 1) _ (omega arith)
      (and_fits N (b + 1) b (quoted _ s b) _ (quoted_reach s _ b) (text_fits s 34 b (omega arith)) (λ c p₃ q₃.
      gap_and s c c _ q₃ (λ d p₄ q₄.
      fits_from d c _ (omega arith)
      (and_fits N (d + 1) d (quoted _ s d) _ (quoted_reach s _ d) (text_fits s 34 d (omega arith)) (λ e p₅ q₅. line_fits s e q₅)))))))

  pub include_fits : (at : ℕ) → at ≤ N → Fits s (at + 1) (include s at)
  unfolding include
  include_fits at h =
      word_and "include" (at + 1) at _ h (λ a p₁ q₁.
      hard_gap_and s word_gap (at + 1) a _ q₁ (λ b p₂ q₂.
      fits_from b (at + 1) _ (omega arith)
      (and_fits N (b + 1) b (hard_string s b) _ (hard_string_reach s b q₂) (hard_string_fits s b) (λ e p₃ q₃. must_fits e missing e _ (line_fits s e q₃)))))

  pub tagged_fits : (w : String) (at : ℕ) → at ≤ N → Fits s (at + 1) (tagged w s at)
  unfolding tagged
  tagged_fits w at h =
      word_and w (at + 1) at _ h (λ a p₁ q₁.
      gap_and s (at + 1) a _ q₁ (λ b p₂ q₂.
      tag_and s N (at + 1) b _ (λ m e p₃ q₃. row_fits (at + 1) e _ span_filled (omega arith)) (tag_reach s b)))
