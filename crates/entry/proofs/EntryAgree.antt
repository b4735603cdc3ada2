-- Locality of rules 4, 14, 15 and 1: what follows a text that ends in a line feed does not count, if it starts with a
-- boundary's byte, but for strings, which may cross the cut. M is the text's length.
use Prim.Native.Nat.{ℕ, suc, ◌+◌, ◌≤◌, ◌<◌}
use Prim.Native.String.{String}
use native.Mathlib.Omega.{arith}
use mathlib.Core.Path.{◌≡◌, refl, sym, ◌∙◌}
use mathlib.Core.Bool.{Bool, true, false}
use mathlib.Core.List.{List, [], ◌∷◌, ◌++◌}
use lib.Dec.{eqb}
use lib.ListN.{length, get_or}
use Rattle.text.specs.Bytes.{bytes, in_line}
use Rattle.text.specs.Run.{run_to}
use Rattle.text.specs.Answer.{Ans, To, Miss, Hard, more, ◌then◌, ◌and◌}
use Rattle.text.specs.Leaves.{gap, hard_gap, word, line_end}
use Rattle.text.proofs.TestLaws.{absurd_bool}
use Rattle.text.proofs.InLine.{has_lf, no_lf}
use Rattle.text.proofs.Joins.{required, Reach, reach_from, must_reach, and_reach}
use Rattle.text.proofs.Alike.{Same, Upto, upto, both_to, to_same, if_alike}
use Rattle.text.proofs.SharedLines.{Shared, byte_same, run_alike, gap_alike, line_alike, tag_alike, word_alike, date_alike, hard_gap_alike}
use Rattle.text.specs.Boundaries.{is_start}
use Rattle.text.proofs.TokenEnds.{gap_reach, line_reach}
use Rattle.text.proofs.TextCut.{xs, s, cut}
use Rattle.text.specs.Refusals.{missing, missing_gap}
use Rattle.amount.specs.declared.detail.Detail.{Detail}
use Rattle.amount.specs.Details.{Rows, span, quoted}
use Rattle.amount.specs.Amounts.{hard_currency, price_of}
use Rattle.amount.proofs.AmountLaws.{hard_currency_alike, price_of_alike, quoted_reach}
use Rattle.row.proofs.SureLaws.{Sure, sure_to, sure_hard, sure_must, sure_more}
use Rattle.posting.specs.Metadata.{metadata}
use Rattle.posting.proofs.Agree.{torn, torn_right, torn_more, Agree, Agrees, misses, refuses, reads, crosses, lost_map, same_agree, then_at, and_at, and_agree, and_strict, and_loose, more_agree, else_agree}
use Rattle.posting.proofs.PostingAgree.{longer, line_agree, sure_metadata}
use Rattle.content.specs.Contents.{hard_account, balance_of, open_of, pad_of, event_of}
use Rattle.content.proofs.ContentEnds.{hard_string_reach, event_of_reach}
use Rattle.content.proofs.ContentAlike.{hard_account_alike, balance_of_alike, pad_of_alike}
use Rattle.content.proofs.ContentAgree.{ending, ending_reach, ending_agree, hard_string_agree, option_string_agree, event_of_agree, open_ending}
use Rattle.transaction.proofs.TransactionAgree.{transaction_agree}
use Rattle.entry.specs.Directive.{keyword, option, include, tagged}
use Rattle.entry.specs.Forms.{Form, as_entry, dateless, directive, blank, form_of}
use Rattle.entry.specs.Strings.{unless, lost_event}

-- ---- no string of what is read crosses n

abbrev pub Clear : ℕ → Rows → Type 0
Clear n a = (j : ℕ) (ds : List Detail) → a ≡ To j ds → torn n ds ≡ false

clear_and : (n : ℕ) (a : Rows) (g : ℕ → Rows) (j : ℕ) (xs : List Detail) → Clear n (a and g) → a ≡ To j xs → Clear n (g j)
unfolding ◌and◌ more
clear_and n a g j xs c e k ys f = go (torn n ys) refl
  where
    go : (t : Bool) → torn n ys ≡ t → torn n ys ≡ false
    go true q = absurd_bool (sym (c k (xs ++ ys) (rw (e, f))) ∙ torn_right n xs ys q)
    go false q = q

clear_then : {A : Type 0} (n : ℕ) (a : Ans A) (g : ℕ → A → Rows) (j : ℕ) (x : A) → Clear n (a then g) → a ≡ To j x → Clear n (g j x)
unfolding ◌then◌
clear_then n a g j x c e = rw e at c

-- ---- answers as entries

abbrev pub in_form : Form → List Detail
in_form f = f.details

as_entry_agree : {n m : ℕ} {t : Bool} (k d : ℕ) {a b : Rows} → Agrees n m t a b → Agree in_form n m t (as_entry k d a) (as_entry k d b)
unfolding as_entry
as_entry_agree k d misses = misses
as_entry_agree k d (refuses i p) = refuses i p
as_entry_agree k d (reads j x l) = reads j _ l
as_entry_agree {t = t} k d (crosses {b} j x l e o) = crosses j _ l e (lost_map t (as_entry k d) b refl o)

-- metadata never misses, so where line end and metadata miss, the line end does
ending_miss : (s : List ℕ) (m : ℕ) → ending s m ≡ Miss → line_end {A = Detail} s m ≡ Miss
unfolding ◌and◌
ending_miss s m e = go (line_end s m) e
  where
    never : (a : Rows) → Sure a → a ≡ Miss → ⊥
    never a sure_to e = let z : ◌≡◌ {A = ℕ} 0 1 = cc in omega arith
    never a sure_hard e = let z : ◌≡◌ {A = ℕ} 0 1 = cc in omega arith

    go : (a : Rows) → (a and λ l. metadata s l) ≡ Miss → a ≡ Miss
    go (To l rs) e = absurd (never _ (sure_more rs (sure_metadata s l)) e)
    go Miss e = refl
    go (Hard k p) e = absurd (never _ sure_hard e)

words_lf : (has_lf (bytes "price") ≡ false) × (has_lf (bytes "balance") ≡ false) × (has_lf (bytes "open") ≡ false) × (has_lf (bytes "close") ≡ false)
    × (has_lf (bytes "pad") ≡ false) × (has_lf (bytes "commodity") ≡ false) × (has_lf (bytes "event") ≡ false)
    × (has_lf (bytes "option") ≡ false) × (has_lf (bytes "include") ≡ false) × (has_lf (bytes "pushtag") ≡ false) × (has_lf (bytes "poptag") ≡ false)
unfolding bytes has_lf
words_lf = (refl, refl, refl, refl, refl, refl, refl, refl, refl, refl, refl)

module _ (front t : List ℕ) (b : ℕ) (B : is_start b ≡ true) where
  abbrev X : List ℕ
  X = xs front t b B

  abbrev S : List ℕ
  S = s front t b B

  abbrev M : ℕ
  M = length X

  abbrev N : ℕ
  N = length S

  abbrev C : Shared (Unit {0}) S X (Upto M) (Upto (suc M))
  C = cut front t b B

  -- ---- rule 4: a keyword, and what follows its gap

  keyword_at_lem : (w : String) (content : List ℕ → ℕ → Rows) → has_lf (bytes w) ≡ false → (at : ℕ) → at < M
      → ((g : ℕ) → g < M → Agrees M (suc M) false (content S g and ending S) (content X g and ending X)) → Agrees M (suc M) false (keyword w content S at) (keyword w content X at)
  unfolding keyword
  keyword_at_lem w content f at h c =
      and_agree (word_alike C (bytes w) f (upto at h)) (λ e h₁. and_agree (hard_gap_alike C missing_gap (upto e h₁)) (λ g h₂. c g h₂))

  keyword_agree : (w : String) (content : List ℕ → ℕ → Rows) → has_lf (bytes w) ≡ false → ((g : ℕ) → g < M → Same M (content S g) (content X g)) → (at : ℕ) → at < M
      → Agrees M (suc M) false (keyword w content S at) (keyword w content X at)
  keyword_agree w content f c at h = keyword_at_lem w content f at h (λ g h₁. and_agree (c g h₁) (λ m h₂. ending_agree front t b B m h₂))

  -- an event whose line end misses is lost with its strings
  abbrev unended : Rows → Rows
  unended a = a then λ e rs. unless (line_end S e) (To e rs)

  event_ending : (at : ℕ) → at < M → Clear M (unended (event_of S at))
      → Agrees M (suc M) false (event_of S at and ending S) (event_of X at and ending X)
  unfolding ◌and◌ ◌then◌ unless
  event_ending at h c = go (event_of S at) (event_of X at) (event_of_agree front t b B at h) (event_of_reach S at (omega (arith, longer front t b B))) c
    where
      go : (a d : Rows) → Agrees M M false a d → Reach N (at + 1) a → Clear M (unended a) → Agrees M (suc M) false (a and ending S) (d and ending X)
      go a d misses r c = misses
      go a d (refuses k p) r c = refuses k p
      go a d (reads j x l) r c = more_agree x (ending_agree front t b B j l)
      go a d (crosses j x l e o) r c =
          torn_more N M (suc M) false j x (d and ending X) (ending S j) l e (ending_reach S j r.ends.1) tt
          (λ q. absurd_bool (sym (c j x (rw (ending_miss S j q))) ∙ e))

  abbrev lost_at : ℕ → Rows
  lost_at at = word (bytes "event") S at and λ c. hard_gap missing_gap S c and λ d. unended (event_of S d)

  event_agree : (at : ℕ) → at < M → Clear M (lost_at at) → Agrees M (suc M) false (keyword "event" event_of S at) (keyword "event" event_of X at)
  unfolding keyword
  event_agree at h c =
      and_at (word_alike C (bytes "event") words_lf.6 (upto at h)) (λ e x p h₁.
      and_at (hard_gap_alike C missing_gap (upto e h₁)) (λ g y q h₂.
      event_ending g h₂ (clear_and M _ _ g y (clear_and M _ _ e x c p) q)))

  dateless_agree : (d at : ℕ) → at < M → Clear M (lost_at at) → Agree in_form M (suc M) false (dateless d S at) (dateless d X at)
  unfolding dateless
  dateless_agree d at h c =
      else_agree (as_entry_agree 6 d (transaction_agree front t b B at h))
      (else_agree (worded 7 "price" price_of words_lf.0 (λ g h. price_of_alike C (upto g h)))
      (else_agree (worded 8 "balance" balance_of words_lf.1 (λ g h. balance_of_alike C (upto g h)))
      (else_agree (as_entry_agree 9 d (keyword_at_lem "open" open_of words_lf.2 at h (open_ending front t b B)))
      (else_agree (worded 10 "close" hard_account words_lf.3 (λ g h. hard_account_alike C (upto g h)))
      (else_agree (worded 11 "pad" pad_of words_lf.4 (λ g h. pad_of_alike C (upto g h)))
      (else_agree (worded 12 "commodity" hard_currency words_lf.5 (λ g h. hard_currency_alike C (upto g h)))
      (as_entry_agree 13 d (event_agree at h c))))))))
    where
      worded : (k : ℕ) (w : String) (content : List ℕ → ℕ → Rows) → has_lf (bytes w) ≡ false → ((g : ℕ) → g < M → Same M (content S g) (content X g))
          → Agree in_form M (suc M) false (as_entry k d (keyword w content S at)) (as_entry k d (keyword w content X at))
      worded k w content f e = as_entry_agree k d (keyword_agree w content f e at h)

  directive_agree : 0 < M → Clear M (lost_event S) → Agree in_form M (suc M) false (directive S) (directive X)
  unfolding directive lost_event
  directive_agree h c =
      then_at (date_alike C (upto 0 h)) (λ e d p h₁.
      then_at (hard_gap_alike C {A = Detail} missing_gap (upto e h₁)) (λ g x q h₂.
      dateless_agree d g h₂ (clear_and M _ _ g x (clear_then M _ _ e d c p) q)))

  -- ---- rules 14 and 15

  option_agree : 0 < M → Agrees M (suc M) true (option S 0) (option X 0)
  unfolding option
  option_agree h =
      and_agree (word_alike C (bytes "option") words_lf.7 (upto 0 h)) (λ a h₁.
      and_agree (gap_alike C (upto a h₁)) (λ c h₂.
      and_strict N (option_string_agree front t b B c h₂) (quoted_reach S (span 34) c)
      (λ d h₃. and_agree (gap_alike C (upto d h₃)) (λ e h₄.
      and_strict N (option_string_agree front t b B e h₄) (quoted_reach S (span 34) e) (λ j h₅. same_agree (line_alike C (upto j h₅))) (λ j p q. line_reach S j q)))
      (λ d p q. and_reach N (d + 1) d (gap S d) _ (gap_reach S d q) (λ e u v.
      and_reach N (e + 1) d (quoted (span 34) S e) _ (quoted_reach S (span 34) e) (λ j y z. reach_from N j d (line_end S j) (omega arith) (line_reach S j z))))))

  include_agree : 0 < M → Agrees M (suc M) false (include S 0) (include X 0)
  unfolding include
  include_agree h =
      and_agree (word_alike C (bytes "include") words_lf.8 (upto 0 h)) (λ a h₁.
      and_agree (hard_gap_alike C missing_gap (upto a h₁)) (λ c h₂.
      and_loose N (hard_string_agree front t b B c h₂) (hard_string_reach S c (omega (arith, longer front t b B))) (λ j _ h₃. line_agree front t b B missing j (omega arith))
      (λ j p q. must_reach N j required j _ q (line_reach S j q)) (λ j. sure_must missing j _)))

  tagged_agree : (w : String) → has_lf (bytes w) ≡ false → 0 < M → Agrees M (suc M) false (tagged w S 0) (tagged w X 0)
  unfolding tagged
  tagged_agree w f h =
      and_agree (word_alike C (bytes w) f (upto 0 h)) (λ a h₁.
      and_agree (gap_alike C (upto a h₁)) (λ c h₂.
      and_agree (tag_alike C (upto c h₂)) (λ e h₃. same_agree (to_same (suc M) e (span 23 (c + 1) e ∷ []) (omega arith)))))

  -- ---- rule 1

  blank_same : 0 < M → Same (suc M) (blank S) (blank X)
  unfolding blank as_entry
  blank_same h =
      let T = run_alike C in_line no_lf.line (upto 0 h) in
      rw (byte_same C T) (if_alike (eqb (get_or S (run_to in_line S 0) 0) 10) _ _ (λ e. both_to _ _ _ _ (C.past _ _ T e) (λ _. refl)))

  form_agree : 0 < M → Clear M (lost_event S) → Agree in_form M (suc M) false (form_of S) (form_of X)
  unfolding form_of
  form_agree h c =
      else_agree (directive_agree h c)
      (else_agree (as_entry_agree 2 0 (option_agree h))
      (else_agree (as_entry_agree 3 0 (include_agree h))
      (else_agree (as_entry_agree 4 0 (tagged_agree "pushtag" words_lf.9 h))
      (else_agree (as_entry_agree 5 0 (tagged_agree "poptag" words_lf.10 h))
      (same_agree (blank_same h))))))

  -- what is read on the longer text, none of whose strings crosses, ends within the shorter and is read there the same
  pub form_cut : (n : ℕ) (f : Form) → 0 < M → Clear M (lost_event S) → form_of S ≡ To n f → torn M f.details ≡ false → (n ≤ M) × (form_of X ≡ To n f)
  form_cut n f h c e u = go (form_agree h c) e
    where
      go : {a d : Ans Form} → Agree in_form M (suc M) false a d → a ≡ To n f → (n ≤ M) × (d ≡ To n f)
      go misses e = absurd (let z : ◌≡◌ {A = ℕ} 0 1 = cc in omega arith)
      go (refuses k p) e = absurd (let z : ◌≡◌ {A = ℕ} 0 1 = cc in omega arith)
      go (reads j x l) e = let z : j ≡ n = cc in (omega arith, e)
      go (crosses j x l q o) e = let z : x ≡ f = cc in absurd_bool (sym u ∙ rw z at q)
