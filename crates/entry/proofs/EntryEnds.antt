-- Where entries and their forms end: at or past their start, and within the text, where a refusal stands too. An entry
-- takes a byte at least.
use Prim.Native.Nat.{ℕ, ◌+◌, ◌≤◌}
use Prim.Native.String.{String}
use native.Mathlib.Omega.{arith}
use mathlib.Core.Path.{sym}
use mathlib.Core.List.{List, []}
use borrow.Author.Tests.{eqb-true}
use lib.Dec.{eqb}
use lib.ListN.{length, get_or}
use Rattle.text.specs.Bytes.{bytes, in_line}
use Rattle.text.specs.Run.{run_to}
use Rattle.text.specs.Answer.{To, Miss, Hard, must}
use Rattle.text.specs.Leaves.{gap, line_end, date, tag, word, hard_gap}
use Rattle.text.proofs.Steps.{byte_within}
use Rattle.text.proofs.Joins.{required, word_gap, Reach, to_reach, miss_reach, hard_reach, reach_from, cond_reach, must_reach, else_reach, then_reach, and_reach}
use Rattle.text.proofs.TokenEnds.{gap_reach, line_reach, tag_reach, word_reach, date_reach, hard_gap_reach}
use Rattle.amount.specs.Details.{Rows, quoted}
use Rattle.amount.specs.Amounts.{hard_currency, price_of}
use Rattle.amount.proofs.AmountLaws.{hard_currency_reach, price_of_reach, quoted_reach}
use Rattle.posting.specs.Metadata.{metadata}
use Rattle.posting.proofs.PostingEnds.{metadata_reach}
use Rattle.text.specs.Refusals.{missing, missing_gap}
use Rattle.amount.specs.declared.detail.Detail.{Detail}
use Rattle.content.specs.Contents.{hard_account, hard_string, balance_of, open_of, pad_of, event_of}
use Rattle.entry.specs.Directive.{keyword, option, include, tagged}
use Rattle.entry.specs.Forms.{as_entry, dateless, directive, blank, form_of}
use Rattle.content.proofs.ContentEnds.{hard_account_reach, hard_string_reach, balance_of_reach, open_of_reach, pad_of_reach, event_of_reach}
use Rattle.transaction.proofs.TransactionEnds.{transaction_reach}

-- an answer as an entry
pub as_entry_reach : (n i k d : ℕ) (a : Rows) → Reach n i a → Reach n i (as_entry k d a)
unfolding as_entry
as_entry_reach n i k d (To j rs) r = record { ends = r.ends }
as_entry_reach n i k d Miss r = miss_reach n i
as_entry_reach n i k d (Hard m p) r = hard_reach n i r.ends.1 p r.ends.0

module _ (s : List ℕ) where
  abbrev N : ℕ
  N = length s

  -- ---- rules 4, 14 and 15: each has a word and a gap

  pub keyword_reach : (w : String) (content : List ℕ → ℕ → Rows) → ((g : ℕ) → g ≤ N → Reach N (g + 1) (content s g))
      → (at : ℕ) → at ≤ N → Reach N (at + 1) (keyword w content s at)
  unfolding keyword
  keyword_reach w content r at h =
      and_reach N (at + length (bytes w)) (at + 1) (word (bytes w) s at) _ (word_reach s at h (bytes w)) (λ e p₁ q₁.
      and_reach N (e + 1) (at + 1) (hard_gap missing_gap s e) _ (hard_gap_reach s e word_gap q₁) (λ g p₂ q₂.
      and_reach N (g + 1) (at + 1) (content s g) _ (r g q₂) (λ m p₃ q₃.
      and_reach N m (at + 1) (line_end s m) _ (line_reach s m q₃) (λ l p₄ q₄.
      reach_from N l (at + 1) (metadata s l) (omega arith) (metadata_reach s l q₄)))))

  pub option_reach : (at : ℕ) → at ≤ N → Reach N (at + 1) (option s at)
  unfolding option
  option_reach at h =
      and_reach N (at + length (bytes "option")) (at + 1) (word (bytes "option") s at) _ (word_reach s at h (bytes "option")) (λ a p₁ q₁.
      and_reach N (a + 1) (at + 1) (gap s a) _ (gap_reach s a q₁) (λ b p₂ q₂.
      and_reach N (b + 1) (at + 1) (quoted _ s b) _ (quoted_reach s _ b) (λ c p₃ q₃.
      and_reach N (c + 1) (at + 1) (gap s c) _ (gap_reach s c q₃) (λ d p₄ q₄.
      and_reach N (d + 1) (at + 1) (quoted _ s d) _ (quoted_reach s _ d) (λ e p₅ q₅.
      reach_from N e (at + 1) (line_end s e) (omega arith) (line_reach s e q₅))))))

  pub include_reach : (at : ℕ) → at ≤ N → Reach N (at + 1) (include s at)
  unfolding include
  include_reach at h =
      and_reach N (at + length (bytes "include")) (at + 1) (word (bytes "include") s at) _ (word_reach s at h (bytes "include")) (λ a p₁ q₁.
      and_reach N (a + 1) (at + 1) (hard_gap missing_gap s a) _ (hard_gap_reach s a word_gap q₁) (λ b p₂ q₂.
      and_reach N (b + 1) (at + 1) (hard_string s b) _ (hard_string_reach s b q₂) (λ e p₃ q₃.
      reach_from N e (at + 1) (must missing e (line_end s e)) (omega arith) (must_reach N e required e _ q₃ (line_reach s e q₃)))))

  pub tagged_reach : (w : String) (at : ℕ) → at ≤ N → Reach N (at + 1) (tagged w s at)
  unfolding tagged
  tagged_reach w at h =
      and_reach N (at + length (bytes w)) (at + 1) (word (bytes w) s at) _ (word_reach s at h (bytes w)) (λ a p₁ q₁.
      and_reach N (a + 1) (at + 1) (gap s a) _ (gap_reach s a q₁) (λ b p₂ q₂.
      and_reach N (b + 1) (at + 1) (tag s b) _ (tag_reach s b) (λ e p₃ q₃. to_reach N (at + 1) e _ (omega arith) q₃)))

  -- ---- rules 1 and 4

  pub dateless_reach : (d at : ℕ) → at ≤ N → Reach N at (dateless d s at)
  unfolding dateless
  dateless_reach d at h =
      else_reach N at _ _ (as_entry_reach N at 6 d _ (transaction_reach s at h))
      (else_reach N at _ _ (worded 7 "price" price_of (price_of_reach s))
      (else_reach N at _ _ (worded 8 "balance" balance_of (balance_of_reach s))
      (else_reach N at _ _ (worded 9 "open" open_of (open_of_reach s))
      (else_reach N at _ _ (worded 10 "close" hard_account (hard_account_reach s))
      (else_reach N at _ _ (worded 11 "pad" pad_of (pad_of_reach s))
      (else_reach N at _ _ (worded 12 "commodity" hard_currency (hard_currency_reach s))
      (worded 13 "event" event_of (event_of_reach s))))))))
    where
      worded : (k : ℕ) (w : String) (content : List ℕ → ℕ → Rows) → ((g : ℕ) → g ≤ N → Reach N (g + 1) (content s g)) → Reach N at (as_entry k d (keyword w content s at))
      worded k w content r = as_entry_reach N at k d _ (reach_from N (at + 1) at _ (omega arith) (keyword_reach w content r at h))

  pub directive_reach : Reach N 1 (directive s)
  unfolding directive
  directive_reach =
      then_reach N 10 1 (date s 0) _ (date_reach s 0 (omega arith)) (λ e d p₁ q₁.
      then_reach N (e + 1) 1 (hard_gap {A = Detail} missing_gap s e) _ (hard_gap_reach s e word_gap q₁) (λ g _ p₂ q₂.
      reach_from N g 1 (dateless d s g) (omega arith) (dateless_reach d g q₂)))

  pub blank_reach : Reach N 1 (blank s)
  unfolding blank as_entry
  blank_reach =
      let e = run_to in_line s 0 in
      cond_reach (λ a. a) N 1 (eqb (get_or s e 0) 10) (as_entry 1 0 (To (e + 1) [])) Miss
      (λ t. let l = byte_within s e 10 (sym (eqb-true _ 10 t)) (omega arith) in to_reach N 1 (e + 1) _ (omega arith) (omega arith)) (λ _. miss_reach N 1)

  pub form_reach : Reach N 1 (form_of s)
  unfolding form_of
  form_reach =
      else_reach N 1 _ _ directive_reach
      (else_reach N 1 _ _ (as_entry_reach N 1 2 0 _ (option_reach 0 (omega arith)))
      (else_reach N 1 _ _ (as_entry_reach N 1 3 0 _ (include_reach 0 (omega arith)))
      (else_reach N 1 _ _ (as_entry_reach N 1 4 0 _ (tagged_reach "pushtag" 0 (omega arith)))
      (else_reach N 1 _ _ (as_entry_reach N 1 5 0 _ (tagged_reach "poptag" 0 (omega arith))) blank_reach))))
