-- Rules 1 and 4: which details an entry has, by its kind. They stand in order of start within its bytes, and are no
-- more than these.
use Rattle.text.specs.declared.stop.Cause.{Cause}
use Rattle.std.specs.Prelude.{None, Some}
use Prim.Native.Nat.{ℕ, ◌+◌, ◌≤◌, ◌<◌}
use Prim.Native.String.{String}
use native.Mathlib.Omega.{arith}
use mathlib.Core.Path.{◌≡◌, refl, sym, ◌∙◌, ap, subst}
use mathlib.Core.Bool.{Bool, true, false, cond}
use mathlib.Core.Logic.{◌⊎◌, inl, inr}
use borrow.Author.Tests.{eqb-true, ne_eqb, leb-true}
use mathlib.Core.List.{List, [], ◌∷◌}
use lib.Dec.{eqb, ltb, leb}
use lib.ListN.{length, get_or, drop, length-map}
use Rattle.text.specs.Bytes.{bytes, is_digit, is_small, in_line}
use Rattle.text.specs.Words.{starts_with, word_at}
use Rattle.text.specs.Run.{run_to, blanks}
use Rattle.text.specs.Lines.{gap_at}
use Rattle.text.specs.Answer.{Ans, To, Miss, Hard, ◌then◌, ◌and◌, ◌else◌, must}
use Rattle.text.specs.Leaves.{token, date, gap, hard_gap, word}
use Rattle.text.proofs.TestLaws.{absurd_bool, and_left, and_right}
use Rattle.text.proofs.Joins.{word_gap, Reach}
use Rattle.text.proofs.TokenEnds.{date_reach, hard_gap_reach}
use Rattle.text.proofs.DayLaws.{date_there}
use Rattle.text.specs.Refusals.{missing_gap}
use Rattle.amount.specs.declared.detail.Detail.{Detail}
use Rattle.amount.specs.Details.{Rows}
use Rattle.row.specs.Details.{spanned}
use Rattle.amount.specs.Amounts.{hard_currency, price_of}
use Rattle.amount.proofs.AmountLaws.{hard_currency_reach, price_of_reach}
use Rattle.amount.proofs.RowCounts.{any_kinds, unflagged, Placed, placed_wide, Fits, fits_from}
use Rattle.amount.proofs.AmountFew.{hard_currency_fits, price_of_fits}
use Rattle.row.specs.declared.table.Row.{Row}
use Rattle.content.specs.Contents.{hard_account, balance_of, open_of, pad_of, event_of}
use Rattle.entry.specs.Directive.{keyword, option, include, tagged}
use Rattle.entry.specs.Forms.{Form, as_entry, dateless, directive, blank, form_of}
use Rattle.entry.specs.Entry.{rows_of, got, entry_of}
use Rattle.content.proofs.ContentEnds.{hard_account_reach, balance_of_reach, open_of_reach, pad_of_reach, event_of_reach}
use Rattle.entry.proofs.EntryForms.{entry_form}
use Rattle.entry.proofs.EntryFew.{keyword_fits, option_fits, include_fits, tagged_fits}
use Rattle.transaction.specs.Transaction.{transaction}
use Rattle.transaction.proofs.Openings.{Opened, Opens, transaction_opens, opened_placed}
use Rattle.content.proofs.ContentFew.{hard_account_fits, balance_of_fits, open_of_fits, pad_of_fits, event_of_fits}

-- a transaction: its date, and what stands behind it and its gap
pub record Transacted (s : List ℕ) (n : ℕ) (f : Form) : Type 0 where
  pub dated : date s 0 ≡ To 10 f.date
  pub inside : blanks s 10 ≤ length s
  pub reads : transaction s (blanks s 10) ≡ To n f.details
  pub opened : Opened s (blanks s 10) n f.details

-- what the details of an entry that ends at n are
pub data Told (s : List ℕ) (n : ℕ) : Form → Type 0 where
  -- a blank entry has none
  line : (f : Form) → f.kind ≡ 1 → f.details ≡ [] → 1 ≤ n → Told s n f
  -- a transaction's flag stands behind the date and its gap
  txn : (f : Form) → f.kind ≡ 6 → 1 ≤ blanks s 10 → Transacted s n f → Told s n f
  -- no other directive has a flag, and neither has an option, include, pushtag or poptag, which starts with a small
  -- letter
  keyworded : (f : Form) → 7 ≤ f.kind → f.kind ≤ 13 → Placed unflagged s 1 n f.details → Told s n f
  worded : (f : Form) → 2 ≤ f.kind → f.kind ≤ 5 → is_small (get_or s 0 0) ≡ true → Placed unflagged s 1 n f.details → Told s n f

digit_not_small : (b : ℕ) → is_digit b ≡ true → is_small b ≡ true → ⊥
unfolding is_digit is_small
digit_not_small b d m = omega (arith, leb-true b 57 (and_right (leb 48 b) (leb b 57) d), leb-true 97 b (and_left (leb 97 b) (leb b 122) m))

-- and of its date
abbrev Tells : List ℕ → Ans Form → Type 0
Tells s (To n f) = Told s n f × (f.date < 100000000)
Tells s Miss = Unit {0}
Tells s (Hard k p) = Unit {0}

module _ (s : List ℕ) where
  else_tells : (a b : Ans Form) → Tells s a → Tells s b → Tells s (a else b)
  unfolding ◌else◌
  else_tells (To n f) b r q = r
  else_tells Miss b r q = q
  else_tells (Hard k p) b r q = tt

  then_tells : {A : Type 0} (n i : ℕ) (a : Ans A) (g : ℕ → A → Ans Form) → Reach n i a → ((j : ℕ) (x : A) → a ≡ To j x → i ≤ j → j ≤ n → Tells s (g j x)) → Tells s (a then g)
  unfolding ◌then◌
  then_tells n i (To j x) g r f = f j x refl r.ends.0 r.ends.1
  then_tells n i Miss g r f = tt
  then_tells n i (Hard k p) g r f = tt

  keyword_tells : (k d : ℕ) (a : Rows) → d < 100000000 → 7 ≤ k → k ≤ 13 → Fits s 1 a → Tells s (as_entry k d a)
  unfolding as_entry
  keyword_tells k d (To n rs) l h i r = (keyworded _ h i r.rows, l)
  keyword_tells k d Miss l h i r = tt
  keyword_tells k d (Hard m p) l h i r = tt

  word_tells : (k : ℕ) (a : Rows) → 2 ≤ k → k ≤ 5 → is_small (get_or s 0 0) ≡ true → Fits s 1 a → Tells s (as_entry k 0 a)
  unfolding as_entry
  word_tells k (To n rs) h i m r = (worded _ h i m r.rows, omega arith)
  word_tells k Miss h i m r = tt
  word_tells k (Hard j p) h i m r = tt

  -- a word that starts with the small letter c, and what follows it
  first_tells : (k c : ℕ) (w : List ℕ) (f : ℕ → Rows) → 2 ≤ k → k ≤ 5 → is_small c ≡ true → Fits s 1 (word (c ∷ w) s 0 and f) → Tells s (as_entry k 0 (word (c ∷ w) s 0 and f))
  unfolding word token word_at ◌and◌ as_entry starts_with
  first_tells k c w f h i m = go (starts_with (c ∷ w) (drop 0 s)) refl
    where
      head_is : (u : List ℕ) → starts_with (c ∷ w) u ≡ true → get_or u 0 0 ≡ c
      head_is [] e = absurd_bool e
      head_is (b ∷ u) e = eqb-true b c (and_left (eqb b c) (starts_with w u) e)

      go : (b : Bool) → starts_with (c ∷ w) (drop 0 s) ≡ b → Fits s 1 (token (cond b (Some (0 + length (c ∷ w))) None) and f)
          → Tells s (as_entry k 0 (token (cond b (Some (0 + length (c ∷ w))) None) and f))
      go true e r = word_tells k _ h i (ap is_small (head_is s e) ∙ m) r
      go false e r = tt

  txn_tells : (d g : ℕ) (a : Rows) → date s 0 ≡ To 10 d → g ≡ blanks s 10 → 1 ≤ g → g ≤ length s → transaction s g ≡ a → Opens s g a → Tells s (as_entry 6 d a)
  unfolding as_entry
  txn_tells d g (To n rs) w e h l q o = (
    txn _ refl (omega (arith, e))
        (record { dated = w; inside = omega (arith, e); reads = ap (transaction s) (sym e) ∙ q; opened = subst (λ i. Opened s i n rs) e o }),
    (date_there s 0 10 d w).0.low,
  )
  txn_tells d g Miss w e h l q o = tt
  txn_tells d g (Hard m p) w e h l q o = tt

  dateless_tells : (d g : ℕ) → date s 0 ≡ To 10 d → g ≡ blanks s 10 → 1 ≤ g → g ≤ length s → Tells s (dateless d s g)
  unfolding dateless
  dateless_tells d g v e i h =
      else_tells _ _ (txn_tells d g _ v e i h refl (transaction_opens s g h))
      (else_tells _ _ (key 7 "price" price_of (omega arith) (omega arith) (price_of_reach s) (price_of_fits s))
      (else_tells _ _ (key 8 "balance" balance_of (omega arith) (omega arith) (balance_of_reach s) (balance_of_fits s))
      (else_tells _ _ (key 9 "open" open_of (omega arith) (omega arith) (open_of_reach s) (open_of_fits s))
      (else_tells _ _ (key 10 "close" hard_account (omega arith) (omega arith) (hard_account_reach s) (hard_account_fits s))
      (else_tells _ _ (key 11 "pad" pad_of (omega arith) (omega arith) (pad_of_reach s) (pad_of_fits s))
      (else_tells _ _ (key 12 "commodity" hard_currency (omega arith) (omega arith) (hard_currency_reach s) (hard_currency_fits s))
      (key 13 "event" event_of (omega arith) (omega arith) (event_of_reach s) (event_of_fits s))))))))
    where
      key : (k : ℕ) (w : String) (content : List ℕ → ℕ → Rows) → 7 ≤ k → k ≤ 13 → ((g : ℕ) → g ≤ length s → Reach (length s) (g + 1) (content s g)) → ((g : ℕ) → g ≤ length s → Fits s g (content s g))
          → Tells s (as_entry k d (keyword w content s g))
      key k w content a b r u = keyword_tells k d _ (date_there s 0 10 d v).0.low a b (fits_from g 1 _ i (keyword_fits s w content r u g h))

  -- a gap ends behind its blanks
  gap_blanks : (n : Cause) (at j : ℕ) (x : List Detail) → hard_gap n s at ≡ To j x → j ≡ blanks s at
  unfolding hard_gap must gap token gap_at
  gap_blanks n at j x e = go (ltb at (blanks s at)) e
    where
      go : (b : Bool) → must n at (token (cond b (Some (blanks s at)) None)) ≡ To j x → j ≡ blanks s at
      go true e = let z : ◌≡◌ {A = ℕ} (blanks s at) j = cc in sym z
      go false e = absurd (let z : ◌≡◌ {A = ℕ} 0 1 = cc in omega arith)

  directive_tells : Tells s (directive s)
  unfolding directive
  directive_tells =
      then_tells (length s) 10 (date s 0) _ (date_reach s 0 (omega arith)) (λ e d q p₁ q₁.
      then_tells (length s) (e + 1) (hard_gap {A = Detail} missing_gap s e) _ (hard_gap_reach s e word_gap q₁) (λ g x z p₂ q₂.
      let ten = (date_there s 0 e d q).1 in
      dateless_tells d g (q ∙ ap (λ (i : ℕ). To i d) ten) (gap_blanks missing_gap e g x z ∙ ap (blanks s) ten) (omega arith) q₂))

  blank_tells : Tells s (blank s)
  unfolding blank as_entry
  blank_tells = on (eqb (get_or s (run_to in_line s 0) 0) 10)
    where
      on : (c : Bool) → Tells s (cond c (as_entry 1 0 (To (run_to in_line s 0 + 1) [])) Miss)
      on true = (line _ refl refl (omega arith), omega arith)
      on false = tt

  form_tells : Tells s (form_of s)
  unfolding form_of option include tagged bytes is_small
  form_tells =
      else_tells _ _ directive_tells
      (else_tells _ _ (first_tells 2 111 _ _ (omega arith) (omega arith) refl (option_fits s 0 (omega arith)))
      (else_tells _ _ (first_tells 3 105 _ _ (omega arith) (omega arith) refl (include_fits s 0 (omega arith)))
      (else_tells _ _ (first_tells 4 112 _ _ (omega arith) (omega arith) refl (tagged_fits s "pushtag" 0 (omega arith)))
      (else_tells _ _ (first_tells 5 112 _ _ (omega arith) (omega arith) refl (tagged_fits s "poptag" 0 (omega arith))) blank_tells))))

  pub form_told : (n : ℕ) (f : Form) → form_of s ≡ To n f → Told s n f
  form_told n f e = (subst (Tells s) e form_tells).0

  pub form_date : (n : ℕ) (f : Form) → form_of s ≡ To n f → f.date < 100000000
  form_date n f e = (subst (Tells s) e form_tells).1

  -- so they stand in order, a transaction's flag among them
  told_placed : (n : ℕ) {f : Form} → Told s n f → Placed any_kinds s 1 n f.details
  told_placed n (line f k d h) = rw d (omega arith)
  told_placed n (txn f k h t) =
      placed_wide any_kinds any_kinds s (blanks s 10) n 1 n f.details (omega arith) h (omega arith) (opened_placed s (blanks s 10) n f.details t.opened)
  told_placed n (keyworded f k l p) = placed_wide unflagged any_kinds s 1 n 1 n f.details (omega arith) (omega arith) (omega arith) p
  told_placed n (worded f k l m p) = placed_wide unflagged any_kinds s 1 n 1 n f.details (omega arith) (omega arith) (omega arith) p

  pub form_placed : (n : ℕ) (f : Form) → form_of s ≡ To n f → Placed any_kinds s 1 n f.details
  form_placed n f e = told_placed n (form_told n f e)

  told_transacted : (n : ℕ) {f : Form} → Told s n f → f.kind ≡ 6 → Transacted s n f
  told_transacted n (line f k d h) e = absurd (omega (arith, k, e))
  told_transacted n (txn f k h t) e = t
  told_transacted n (keyworded f k l p) e = absurd (omega (arith, e))
  told_transacted n (worded f k l m p) e = absurd (omega (arith, e))

  pub form_transacted : (n : ℕ) (f : Form) → form_of s ≡ To n f → f.kind ≡ 6 → Transacted s n f
  form_transacted n f e k = told_transacted n (form_told n f e) k

  -- ---- kinds

  told_low : (n : ℕ) {f : Form} → Told s n f → f.kind ≤ 13
  told_low n (line f k d h) = omega (arith, k)
  told_low n (txn f k h o) = omega (arith, k)
  told_low n (keyworded f k l p) = l
  told_low n (worded f k l m p) = omega arith

  pub form_kind_low : (n : ℕ) (f : Form) → form_of s ≡ To n f → f.kind ≤ 13
  form_kind_low n f e = told_low n (form_told n f e)

  -- none of those whose p and q are a span
  pub form_kind : (n : ℕ) (f : Form) → form_of s ≡ To n f → spanned f.kind ≡ false
  unfolding spanned
  form_kind n f e =
      let l = form_kind_low n f e in
      let no : (m : ℕ) → 13 < m → eqb f.kind m ≡ false = λ m h. ne_eqb f.kind m (λ z. omega (arith, l)) in
      rw (no 26 (omega arith), no 29 (omega arith), no 30 (omega arith), no 35 (omega arith), no 36 (omega arith), no 37 (omega arith))

  -- an entry that starts with a digit is a blank one or a directive
  told_digit : is_digit (get_or s 0 0) ≡ true → (n : ℕ) {f : Form} → Told s n f → (f.kind ≡ 1) ⊎ (6 ≤ f.kind)
  told_digit d n (line f k e h) = inl k
  told_digit d n (txn f k h o) = inr (omega (arith, k))
  told_digit d n (keyworded f k l p) = inr (omega arith)
  told_digit d n (worded f k l m p) = absurd (digit_not_small (get_or s 0 0) d m)

  pub digit_kind : is_digit (get_or s 0 0) ≡ true → (n : ℕ) (f : Form) → form_of s ≡ To n f → (f.kind ≡ 1) ⊎ (6 ≤ f.kind)
  digit_kind d n f e = told_digit d n (form_told n f e)

-- the entry's own row and its details are no more than its bytes
pub entry_few : (s : List ℕ) (n : ℕ) (rs : List Row) → entry_of s ≡ got n rs → length rs ≤ n
unfolding rows_of
entry_few s n rs e =
    let f = entry_form s n rs e in
    omega (arith, simp length-map at (ap length f.2), form_placed s n f.0 f.1)
