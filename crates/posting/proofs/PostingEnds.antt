-- Where the forms of rules 12, 13 and 16 end: at or past their start, and within the text, where a refusal stands too.
use Rattle.std.specs.Prelude.{None, Some}
use Prim.Native.Nat.{ℕ, suc, ◌+◌, ◌≤◌}
use native.Mathlib.Omega.{arith}
use mathlib.Core.Path.{refl}
use mathlib.Core.List.{List, []}
use lib.ListN.{length, get_or}
use Rattle.text.specs.Bytes.{is_small, is_blank, in_tag}
use Rattle.text.specs.Run.{run_to, blanks}
use Rattle.text.specs.Answer.{To, Miss, ◌and◌, maybe, many}
use Rattle.text.specs.Leaves.{token, gap, line_end, date, currency, byte, comma}
use Rattle.text.specs.Accounts.{account}
use Rattle.text.proofs.Steps.{such_within}
use Rattle.text.proofs.Joins.{Reach, to_reach, miss_reach, reach_from, cond_reach, else_reach, then_reach, and_reach, maybe_reach, many_reach}
use Rattle.text.proofs.TokenEnds.{run_reach, gap_reach, line_reach, empty_reach, account_reach, currency_reach, byte_reach, date_reach, comma_reach}
use Rattle.amount.specs.Details.{Rows}
use Rattle.amount.specs.Expression.{expression}
use Rattle.amount.specs.Amounts.{amount}
use Rattle.amount.proofs.ExpressionEnds.{expression_reach}
use Rattle.amount.proofs.AmountLaws.{amount_reach, quoted_reach}
use Rattle.posting.specs.Metadata.{key_at, key, value, meta_line, meta_step, metadata}
use Rattle.posting.specs.Costs.{price, inside, cost}
use Rattle.posting.specs.Postings.{is_flag, flag, posting_flag, units, posting_line, posting, body_step, body}

-- ---- a reader that takes a byte at least

module _ (n : ℕ) where
  pub optional_reach : (at : ℕ) (a : Rows) → at ≤ n → Reach n (at + 1) a → Reach n at (maybe at a)
  optional_reach at a h r = maybe_reach n at at a (omega arith) h (reach_from n (at + 1) at a (omega arith) r)

  pub repeated_reach : (f : ℕ → Rows) → ((i : ℕ) → i ≤ n → Reach n (i + 1) (f i)) → (at : ℕ) → at ≤ n → Reach n at (many f (suc n) at)
  repeated_reach f r at h = many_reach n f (λ i l. reach_from n (i + 1) i (f i) (omega arith) (r i l)) (suc n) at h

module _ (s : List ℕ) where
  abbrev N : ℕ
  N = length s

  -- and a gap before it
  pub spaced_reach : (f : ℕ → Rows) → ((i : ℕ) → Reach N (i + 1) (f i)) → (at : ℕ) → at ≤ N → Reach N (at + 1) (gap s at and f)
  spaced_reach f r at h = and_reach N (at + 1) (at + 1) (gap s at) f (gap_reach s at h) (λ g p q. reach_from N (g + 1) (at + 1) (f g) (omega arith) (r g))

  -- ---- rule 16

  pub key_reach : (at : ℕ) → Reach N (at + 1) (key s at)
  unfolding key key_at token is_small
  key_reach at =
      cond_reach token N (at + 1) (is_small (get_or s at 0)) (Some (run_to in_tag s (at + 1))) None
      (λ e.
      let l = such_within is_small s at (get_or s at 0) refl refl e in
      let r = run_reach in_tag s (at + 1) (omega arith) in
      to_reach N (at + 1) (run_to in_tag s (at + 1)) [] r.0 r.1)
      (λ _. miss_reach N (at + 1))

  pub value_reach : (k c at : ℕ) → Reach N (at + 1) (value k c s at)
  unfolding value
  value_reach k c at =
      else_reach N (at + 1) _ _ (quoted_reach s _ at)
      (else_reach N (at + 1) _ _
      (then_reach N (at + 1) (at + 1) (expression s at) _ (expression_reach s at) (λ e v p q. to_reach N (at + 1) e _ p q))
      (and_reach N (at + 1) (at + 1) (currency s at) _ (currency_reach s at) (λ e p q. to_reach N (at + 1) e _ p q)))

  pub meta_line_reach : (at : ℕ) → at ≤ N → Reach N (at + 1) (meta_line s at)
  unfolding meta_line
  meta_line_reach at h =
      and_reach N (at + 1) (at + 1) (gap s at) _ (gap_reach s at h) (λ k p₁ q₁.
      and_reach N (k + 1) (at + 1) (key s k) _ (key_reach k) (λ c p₂ q₂.
      and_reach N (c + 1) (at + 1) (byte 58 s c) _ (byte_reach s c 58 (omega arith)) (λ d p₃ q₃.
      and_reach N (d + 1) (at + 1) (gap s d) _ (gap_reach s d q₃) (λ v p₄ q₄.
      and_reach N (v + 1) (at + 1) (value k c s v) _ (value_reach k c v) (λ e p₅ q₅.
      reach_from N e (at + 1) (line_end s e) (omega arith) (line_reach s e q₅))))))

  pub meta_step_reach : (at : ℕ) → at ≤ N → Reach N (at + 1) (meta_step s at)
  unfolding meta_step
  meta_step_reach at h = else_reach N (at + 1) _ _ (meta_line_reach at h) (empty_reach s at h)

  pub metadata_reach : (at : ℕ) → at ≤ N → Reach N at (metadata s at)
  unfolding metadata
  metadata_reach at h = repeated_reach N (meta_step s) meta_step_reach at h

  -- ---- rule 12's price

  pub price_reach : (at : ℕ) → Reach N (at + 1) (price s at)
  unfolding price
  price_reach at =
      else_reach N (at + 1) _ _
      (and_reach N (at + 1) (at + 1) (byte 64 s at) _ (byte_reach s at 64 (omega arith)) (λ i p₁ q₁.
      reach_from N (i + 1) (at + 1) _ (omega arith) (spaced_reach (amount 29 s) (amount_reach s 29) i q₁)))
      (and_reach N (at + 1) (at + 1) (byte 64 s at) _ (byte_reach s at 64 (omega arith)) (λ i p₁ q₁.
      and_reach N (i + 1) (at + 1) (byte 64 s i) _ (byte_reach s i 64 (omega arith)) (λ j p₂ q₂.
      reach_from N (j + 1) (at + 1) _ (omega arith) (spaced_reach (amount 30 s) (amount_reach s 30) j q₂))))

  -- ---- rule 13

  pub inside_reach : (at : ℕ) → at ≤ N → Reach N at (inside s at)
  unfolding inside
  inside_reach at h =
      else_reach N at _ _
      (then_reach N (at + 1) at (amount 26 s at) _ (amount_reach s 26 at) (λ i rs p₁ q₁.
      then_reach N (i + 1) at (comma s i) _ (comma_reach s i q₁) (λ j _ p₂ q₂.
      then_reach N (j + 10) at (date s j) _ (date_reach s j q₂) (λ e d p₃ q₃. to_reach N at e _ (omega arith) q₃))))
      (else_reach N at _ _
      (then_reach N (at + 10) at (date s at) _ (date_reach s at h) (λ i d p₁ q₁.
      then_reach N (i + 1) at (comma s i) _ (comma_reach s i q₁) (λ j _ p₂ q₂.
      then_reach N (j + 1) at (amount 26 s j) _ (amount_reach s 26 j) (λ e rs p₃ q₃. to_reach N at e _ (omega arith) q₃))))
      (else_reach N at _ _
      (then_reach N (at + 1) at (amount 26 s at) _ (amount_reach s 26 at) (λ e rs p₁ q₁. to_reach N at e _ (omega arith) q₁))
      (else_reach N at _ _
      (then_reach N (at + 10) at (date s at) _ (date_reach s at h) (λ e d p₁ q₁. to_reach N at e _ (omega arith) q₁))
      (to_reach N at at _ (omega arith) h))))

  pub cost_reach : (at : ℕ) → Reach N (at + 1) (cost s at)
  unfolding cost
  cost_reach at =
      and_reach N (at + 1) (at + 1) (byte 123 s at) _ (byte_reach s at 123 (omega arith)) (λ i p₁ q₁.
      let r = run_reach is_blank s i q₁ in
      then_reach N (blanks s i) (at + 1) (inside s (blanks s i)) _ (inside_reach (blanks s i) r.1) (λ e l p₂ q₂.
      let w = run_reach is_blank s e q₂ in
      and_reach N (blanks s e + 1) (at + 1) (byte 125 s (blanks s e)) _ (byte_reach s (blanks s e) 125 (omega arith)) (λ f p₃ q₃.
      to_reach N (at + 1) f _ (omega arith) q₃)))

  -- ---- rule 12

  pub flag_reach : (at : ℕ) → Reach N (at + 1) (flag s at)
  unfolding flag is_flag is_small
  flag_reach at =
      cond_reach (λ a. a) N (at + 1) (is_flag (get_or s at 0)) (To (at + 1) []) Miss
      (λ e. let l = such_within is_flag s at (get_or s at 0) refl refl e in to_reach N (at + 1) (at + 1) [] (omega arith) (omega arith))
      (λ _. miss_reach N (at + 1))

  pub posting_flag_reach : (at : ℕ) → at ≤ N → Reach N at (posting_flag s at)
  unfolding posting_flag
  posting_flag_reach at h =
      else_reach N at _ _
      (then_reach N (at + 1) at (flag s at) _ (flag_reach at) (λ f _ p₁ q₁.
      then_reach N (f + 1) at (gap {A = ℕ} s f) _ (gap_reach s f q₁) (λ g _ p₂ q₂. to_reach N at g _ (omega arith) q₂)))
      (to_reach N at at _ (omega arith) h)

  pub units_reach : (at : ℕ) → at ≤ N → Reach N (at + 1) (units s at)
  unfolding units
  units_reach at h =
      and_reach N (at + 1) (at + 1) (gap s at) _ (gap_reach s at h) (λ g p₁ q₁.
      and_reach N (g + 1) (at + 1) (amount 26 s g) _ (amount_reach s 26 g) (λ e p₂ q₂.
      and_reach N e (at + 1) (maybe e _) _ (optional_reach N e _ q₂ (spaced_reach (cost s) cost_reach e q₂)) (λ f p₃ q₃.
      reach_from N f (at + 1) (maybe f _) (omega arith) (optional_reach N f _ q₃ (spaced_reach (price s) price_reach f q₃)))))

  pub posting_line_reach : (at : ℕ) → at ≤ N → Reach N (at + 1) (posting_line s at)
  unfolding posting_line
  posting_line_reach at h =
      and_reach N (at + 1) (at + 1) (gap s at) _ (gap_reach s at h) (λ g p₁ q₁.
      then_reach N g (at + 1) (posting_flag s g) _ (posting_flag_reach g q₁) (λ a f p₂ q₂.
      and_reach N (a + 1) (at + 1) (account s a) _ (account_reach s a) (λ e p₃ q₃.
      and_reach N e (at + 1) (To e _) _ (to_reach N e e _ (omega arith) q₃) (λ e p₄ q₄.
      and_reach N e (at + 1) (maybe e (units s e)) _ (optional_reach N e _ q₄ (units_reach e q₄)) (λ m p₅ q₅.
      reach_from N m (at + 1) (line_end s m) (omega arith) (line_reach s m q₅))))))

  pub posting_reach : (at : ℕ) → at ≤ N → Reach N (at + 1) (posting s at)
  unfolding posting
  posting_reach at h =
      and_reach N (at + 1) (at + 1) (posting_line s at) _ (posting_line_reach at h) (λ l p q.
      reach_from N l (at + 1) (metadata s l) p (metadata_reach l q))

  -- ---- rule 11's postings and empty lines

  pub body_step_reach : (at : ℕ) → at ≤ N → Reach N (at + 1) (body_step s at)
  unfolding body_step
  body_step_reach at h = else_reach N (at + 1) _ _ (posting_reach at h) (empty_reach s at h)

  pub body_reach : (at : ℕ) → at ≤ N → Reach N at (body s at)
  unfolding body
  body_reach at h = repeated_reach N (body_step s) body_step_reach at h
