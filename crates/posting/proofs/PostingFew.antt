-- Rules 12, 13 and 16: rows stand in order within their bytes, and are no more than these.
use Prim.Native.Nat.{ℕ, suc, ◌+◌, ◌≤◌, ◌<◌}
use native.Mathlib.Omega.{arith}
use mathlib.Core.Path.{◌≡◌, refl, subst}
use mathlib.Core.Logic.{inl, inr}
use mathlib.Core.List.{List}
use lib.ListN.{length, get_or}
use Rattle.text.specs.Bytes.{is_blank}
use Rattle.text.specs.Run.{blanks}
use Rattle.text.specs.Answer.{Ans, To, Miss, Hard, ◌then◌, ◌and◌, ◌else◌, maybe}
use Rattle.text.specs.Leaves.{gap, line_end, empty_line, date, currency, byte, comma}
use Rattle.text.specs.Accounts.{account}
use Rattle.text.proofs.Joins.{to_reach, reach_from}
use Rattle.text.proofs.Inversions.{to_inv, else_inv, then_inv}
use Rattle.text.proofs.DayLaws.{date_there}
use Rattle.text.proofs.TokenEnds.{run_reach, gap_reach, line_reach, empty_reach, account_reach, currency_reach, byte_reach, date_reach, comma_reach}
use Rattle.amount.specs.declared.detail.Detail.{Detail}
use Rattle.amount.specs.Details.{Rows, named}
use Rattle.amount.specs.Expression.{expression}
use Rattle.amount.specs.Amounts.{amount}
use Rattle.amount.proofs.ExpressionEnds.{expression_reach}
use Rattle.amount.proofs.AmountLaws.{amount_reach}
use Rattle.amount.proofs.ValueSizes.{zero_small, read_small}
use Rattle.amount.proofs.RowCounts.{Kinds, part_kinds, meta_kinds, unset, day, flagged, Filled, named_filled, valued_filled, placed_wide, Holds, FitsFrom, Fits, to_fits, fits_at, fits_from, fits_wide, else_fits, row_fits, then_rows, then_read, then_fits, and_fits, maybe_fits, many_fits, Bare, token_bare, test_bare, bare_fits, bare_and, gap_bare, line_bare, empty_bare, account_bare, currency_bare, byte_bare, quoted_fits}
use Rattle.amount.proofs.AmountFew.{amount_fits}
use Rattle.posting.specs.Metadata.{key, value, meta_line, meta_step, metadata}
use Rattle.posting.specs.Costs.{price, Lot, inside, cost}
use Rattle.posting.specs.Postings.{is_flag, flag, posting_flag, units, posting_line, posting, body_step, body}
use Rattle.posting.proofs.PostingEnds.{key_reach, value_reach, meta_step_reach, inside_reach, cost_reach, optional_reach, spaced_reach, posting_flag_reach, units_reach, posting_line_reach, body_step_reach}

module _ (s : List ℕ) where
  abbrev N : ℕ
  N = length s

  pub line_fits : {K : Kinds} (at : ℕ) → at ≤ N → FitsFrom K s at (line_end s at)
  line_fits at h = bare_fits N at _ (line_reach s at h) (line_bare s at)

  empty_fits : {K : Kinds} (at : ℕ) → at ≤ N → FitsFrom K s at (empty_line s at)
  empty_fits at h = bare_fits N at _ (reach_from N (at + 1) at _ (omega arith) (empty_reach s at h)) (empty_bare s at)

  -- a gap before rows
  pub gap_and : {K : Kinds} (k at : ℕ) (f : ℕ → Rows) → at ≤ N → ((g : ℕ) → at + 1 ≤ g → g ≤ N → FitsFrom K s k (f g)) → FitsFrom K s k (gap s at and f)
  gap_and k at f h u = bare_and N (at + 1) k (gap s at) f (gap_reach s at h) (gap_bare s at) u

  pub spaced_fits : {K : Kinds} (f : ℕ → Rows) → ((i : ℕ) → FitsFrom K s i (f i)) → (at : ℕ) → at ≤ N → FitsFrom K s at (gap s at and f)
  spaced_fits f u at h = gap_and at at f h (λ g p q. fits_from g at (f g) (omega arith) (u g))

  -- ---- rule 16

  -- a metadata row spans its key
  pub value_fits : (k c at : ℕ) → k ≤ at → c ≤ at → FitsFrom meta_kinds s k (value k c s at)
  unfolding value
  value_fits k c at h g =
      else_fits k _ _ (quoted_fits s (named 35 k c) k at (λ m e p q. (omega arith, named_filled (λ z. omega arith) (omega arith) (omega arith), omega arith)) h)
      (else_fits k _ _
      (then_read N (at + 1) k (expression s at) _ (expression_reach s at) (λ e v w p q.
      row_fits k e _ (valued_filled (λ z. omega arith) (omega arith) q (read_small s at e v w)) (omega arith)))
      (bare_and N (at + 1) k (currency s at) _ (currency_reach s at) (currency_bare s at) (λ e p q.
      row_fits k e _ (named_filled (λ z. omega arith) (omega arith) q) (omega arith))))

  pub key_bare : (at : ℕ) → Bare (key s at)
  unfolding key
  key_bare at = token_bare _

  pub meta_line_fits : (at : ℕ) → at ≤ N → FitsFrom meta_kinds s at (meta_line s at)
  unfolding meta_line
  meta_line_fits at h =
      gap_and at at _ h (λ k p₁ q₁.
      fits_from k at _ (omega arith)
      (bare_and N (k + 1) k (key s k) _ (key_reach s k) (key_bare k) (λ c p₂ q₂.
      bare_and N (c + 1) k (byte 58 s c) _ (byte_reach s c 58 (omega arith)) (byte_bare s c 58) (λ d p₃ q₃.
      gap_and k d _ q₃ (λ v p₄ q₄.
      and_fits N (v + 1) k (value k c s v) _ (value_reach s k c v) (value_fits k c v (omega arith) (omega arith)) (λ e p₅ q₅. line_fits e q₅))))))

  pub meta_step_fits : (at : ℕ) → at ≤ N → FitsFrom meta_kinds s at (meta_step s at)
  unfolding meta_step
  meta_step_fits at h = else_fits at _ _ (meta_line_fits at h) (empty_fits at h)

  pub metadata_fits : (at : ℕ) → at ≤ N → FitsFrom meta_kinds s at (metadata s at)
  unfolding metadata
  metadata_fits at h = many_fits N (meta_step s) (meta_step_reach s) meta_step_fits (suc N) at h

  -- ---- rule 12's price

  pub price_fits : (at : ℕ) → FitsFrom part_kinds s at (price s at)
  unfolding price
  price_fits at =
      else_fits at _ _
      (bare_and N (at + 1) at (byte 64 s at) _ (byte_reach s at 64 (omega arith)) (byte_bare s at 64) (λ i p₁ q₁.
      fits_from i at _ (omega arith) (spaced_fits (amount 29 s) (λ j. amount_fits s 29 j (omega arith)) i q₁)))
      (bare_and N (at + 1) at (byte 64 s at) _ (byte_reach s at 64 (omega arith)) (byte_bare s at 64) (λ i p₁ q₁.
      bare_and N (i + 1) at (byte 64 s i) _ (byte_reach s i 64 (omega arith)) (byte_bare s i 64) (λ j p₂ q₂.
      fits_from j at _ (omega arith) (spaced_fits (amount 30 s) (λ i. amount_fits s 30 i (omega arith)) j q₂))))

  -- ---- rule 13

  abbrev pub held : Lot → List Detail
  held l = l.rows

  pub inside_fits : (at : ℕ) → at ≤ N → Holds part_kinds s held at (inside s at)
  unfolding inside
  inside_fits at h =
      else_fits at _ _
      (then_rows _ N (at + 1) at at (amount 26 s at) _ (amount_reach s 26 at) (amount_fits s 26 at (omega arith)) (λ i rs p₁ q₁ r₁.
      then_fits N (i + 1) at (comma s i) _ (comma_reach s i q₁) (λ j _ p₂ q₂.
      then_fits N (j + 10) at (date s j) _ (date_reach s j q₂) (λ e d p₃ q₃.
      to_fits at e _ (placed_wide part_kinds part_kinds s at i at e rs (omega arith) (omega arith) (omega arith) r₁)))))
      (else_fits at _ _
      (then_fits N (at + 10) at (date s at) _ (date_reach s at h) (λ i d p₁ q₁.
      then_fits N (i + 1) at (comma s i) _ (comma_reach s i q₁) (λ j _ p₂ q₂.
      then_rows _ N (j + 1) j at (amount 26 s j) _ (amount_reach s 26 j) (amount_fits s 26 j (omega arith)) (λ e rs p₃ q₃ r₃.
      to_fits at e _ (placed_wide part_kinds part_kinds s j e at e rs (omega arith) (omega arith) (omega arith) r₃)))))
      (else_fits at _ _
      (then_rows _ N (at + 1) at at (amount 26 s at) _ (amount_reach s 26 at) (amount_fits s 26 at (omega arith)) (λ e rs p₁ q₁ r₁. to_fits at e _ r₁))
      (else_fits at _ _
      (then_fits N (at + 10) at (date s at) _ (date_reach s at h) (λ e d p₁ q₁. to_fits at e _ (omega arith)))
      (to_fits at at _ (omega arith)))))

  -- its date
  abbrev Dated : Ans Lot → Type 0
  Dated (To e l) = l.when < 100000000
  Dated Miss = Unit {0}
  Dated (Hard k p) = Unit {0}

  else_dated : (a b : Ans Lot) → Dated a → Dated b → Dated (a else b)
  unfolding ◌else◌
  else_dated (To e l) b p q = p
  else_dated Miss b p q = q
  else_dated (Hard k i) b p q = tt

  then_dated : {A : Type 0} (a : Ans A) (g : ℕ → A → Ans Lot) → ((j : ℕ) (x : A) → a ≡ To j x → Dated (g j x)) → Dated (a then g)
  unfolding ◌then◌
  then_dated (To j x) g f = f j x refl
  then_dated Miss g f = tt
  then_dated (Hard k p) g f = tt

  inside_dated : (at : ℕ) → Dated (inside s at)
  unfolding inside
  inside_dated at =
      else_dated _ _ (then_dated _ _ (λ i rs x. then_dated _ _ (λ j c y. then_dated _ _ (λ e d z. (date_there s j e d z).0.low))))
      (else_dated _ _ (then_dated _ _ (λ i d x. then_dated _ _ (λ j c y. then_dated _ _ (λ e rs z. (date_there s at i d x).0.low))))
      (else_dated _ _ (then_dated _ _ (λ e rs x. omega arith)) (else_dated _ _ (then_dated _ _ (λ e d x. (date_there s at e d x).0.low)) (omega arith))))

  pub cost_fits : (at : ℕ) → FitsFrom part_kinds s at (cost s at)
  unfolding cost
  cost_fits at =
      bare_and N (at + 1) at (byte 123 s at) _ (byte_reach s at 123 (omega arith)) (byte_bare s at 123) (λ i p₁ q₁.
      let b = blanks s i in
      let r = run_reach is_blank s i q₁ in
      then_read N b at (inside s b) _ (inside_reach s b r.1) (λ e l v p₂ q₂.
      let r₂ = fits_at b e l (inside s b) (inside_fits b r.1) v in
      let w = run_reach is_blank s e q₂ in
      bare_and N (blanks s e + 1) at (byte 125 s (blanks s e)) _ (byte_reach s (blanks s e) 125 (omega arith)) (byte_bare s (blanks s e) 125) (λ f p₃ q₃.
      to_fits at f _ (
        (
          omega arith,
          record { second = day refl (subst Dated v (inside_dated b)); q_in = omega arith; small = zero_small },
          (placed_wide part_kinds part_kinds s b e at f l.rows (omega arith) (omega arith) (omega arith) r₂).0,
        ),
        omega arith,
      ))))

  -- ---- rule 12

  pub flag_bare : (at : ℕ) → Bare (flag s at)
  unfolding flag
  flag_bare at = test_bare (is_flag (get_or s at 0)) (at + 1)

  -- its p is the byte of its flag, or 0
  posting_filled : (g a e f : ℕ) → posting_flag s g ≡ To a f → Filled s (named 33 a e f 0)
  unfolding posting_flag
  posting_filled g a e f x =
      record {
        second =
            elim (else_inv _ _ a f x) [
              | inl y ↦ let z = then_inv _ _ a f (then_inv _ _ a f y).3 in flagged refl g (to_inv z.0 a (get_or s g 0) f z.3).1
              | inr y ↦ unset (to_inv g a 0 f y.1).1
            ];
        q_in = omega arith;
        small = zero_small;
      }

  pub units_fits : (at : ℕ) → at ≤ N → FitsFrom part_kinds s at (units s at)
  unfolding units
  units_fits at h =
      gap_and at at _ h (λ g p₁ q₁.
      fits_from g at _ (omega arith)
      (and_fits N (g + 1) g (amount 26 s g) _ (amount_reach s 26 g) (amount_fits s 26 g (omega arith)) (λ e p₂ q₂.
      and_fits N e e (maybe e _) _ (optional_reach N e _ q₂ (spaced_reach s (cost s) (cost_reach s) e q₂))
      (maybe_fits e _ (spaced_fits (cost s) cost_fits e q₂)) (λ f p₃ q₃.
      maybe_fits f _ (spaced_fits (price s) price_fits f q₃)))))

  pub posting_line_fits : (at : ℕ) → at ≤ N → Fits s at (posting_line s at)
  unfolding posting_line
  posting_line_fits at h =
      gap_and at at _ h (λ g p₁ q₁.
      then_read N g at (posting_flag s g) _ (posting_flag_reach s g q₁) (λ a f v p₂ q₂.
      bare_and N (a + 1) at (account s a) _ (account_reach s a) (account_bare s a) (λ e p₃ q₃.
      and_fits N e at (To e _) _ (to_reach N e e _ (omega arith) q₃) (row_fits at e _ (posting_filled g a e f v) (omega arith)) (λ e p₄ q₄.
      and_fits N e e (maybe e (units s e)) _ (optional_reach N e _ q₄ (units_reach s e q₄)) (fits_wide _ e _ (omega arith) (maybe_fits e _ (units_fits e q₄))) (λ m p₅ q₅. line_fits m q₅)))))

  pub posting_fits : (at : ℕ) → at ≤ N → Fits s at (posting s at)
  unfolding posting
  posting_fits at h = and_fits N (at + 1) at (posting_line s at) _ (posting_line_reach s at h) (posting_line_fits at h) (λ l p q. fits_wide _ l _ (omega arith) (metadata_fits l q))

  -- ---- rule 11's postings and empty lines

  pub body_step_fits : (at : ℕ) → at ≤ N → Fits s at (body_step s at)
  unfolding body_step
  body_step_fits at h = else_fits at _ _ (posting_fits at h) (empty_fits at h)

  pub body_fits : (at : ℕ) → at ≤ N → Fits s at (body s at)
  unfolding body
  body_fits at h = many_fits N (body_step s) (body_step_reach s) body_step_fits (suc N) at h
