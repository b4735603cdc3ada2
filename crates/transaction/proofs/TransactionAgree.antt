-- Locality of rule 11: what follows a text that ends in a line feed does not count, if it starts with a boundary's
-- byte, but for strings, which may cross the cut. M is the text's length: below it a place stands inside a line; a
-- transaction's opening may be the last line feed.
use Rattle.text.specs.declared.stop.Cause.{Cause}
use Prim.Native.Nat.{ℕ, suc, ◌+◌, ◌-◌, ◌≤◌, ◌<◌}
use native.Mathlib.Omega.{arith}
use mathlib.Core.Path.{◌≡◌, refl}
use mathlib.Core.Bool.{true, false}
use mathlib.Core.List.{List, [], ◌∷◌, ◌++◌}
use lib.Dec.{eqb}
use lib.ListN.{length, get_or, length-append}
use Rattle.text.specs.Bytes.{bytes, is_blank, is_digit, is_small}
use Rattle.text.specs.Run.{blanks}
use Rattle.text.specs.Tags.{marked_at}
use Rattle.text.specs.Answer.{To, Miss, Hard, must, ◌else◌, more, ◌and◌}
use Rattle.text.specs.Leaves.{token, gap, string, tag, link, line_end}
use Rattle.text.proofs.Steps.{run_stops, run_ends}
use Rattle.text.proofs.InLine.{has_lf, start_not, start_bounds}
use Rattle.text.proofs.Joins.{required, Reach, reach_from, must_reach, and_reach}
use Rattle.text.proofs.Alike.{Same, Upto, upto, both_to, to_same, miss_same, same_below, else_alike, and_alike, many_alike}
use Rattle.text.proofs.SharedLines.{Shared, told, blanks_alike, gap_alike, tag_alike, link_alike, word_alike}
use Rattle.text.specs.Boundaries.{is_start}
use Rattle.text.proofs.StringSame.{string_ends}
use Rattle.text.proofs.TokenEnds.{gap_reach, line_reach, string_reach}
use Rattle.text.proofs.TextCut.{xs, ys, s, cut, seam, past_end, at_seam, gap_same}
use Rattle.text.specs.Refusals.{missing}
use Rattle.amount.specs.declared.detail.Detail.{Detail}
use Rattle.amount.specs.Details.{Rows, span}
use Rattle.row.proofs.SureLaws.{Sure, sure_must, sure_many, sure_and}
use Rattle.posting.specs.Metadata.{metadata}
use Rattle.posting.specs.Postings.{body}
use Rattle.posting.proofs.PostingEnds.{optional_reach, metadata_reach, body_reach}
use Rattle.posting.proofs.Agree.{torn, torn_right, Agrees, misses, refuses, crosses, same_agree, agree_below, more_agree, else_agree, and_agree, and_loose, maybe_agree}
use Rattle.posting.proofs.StringAgree.{span_torn, Seen, missed, read, crossed, seen, string_agree}
use Rattle.posting.proofs.PostingAlike.{flag_alike}
use Rattle.posting.proofs.PostingAgree.{longer, line_agree, metadata_agree, sure_metadata, body_agree, sure_body}
use Rattle.transaction.specs.Transaction.{opening, texts, mark, marks, transaction}
use Rattle.transaction.proofs.TransactionEnds.{mark_reach, marks_reach, texts_reach}

pub txn_lf : has_lf (bytes "txn") ≡ false
unfolding has_lf bytes
txn_lf = refl

-- no mark stands where its byte does not
start_not_mark : (b : ℕ) → is_start b ≡ true → (eqb b 35 ≡ false) × (eqb b 94 ≡ false)
unfolding is_digit is_small
start_not_mark b h = (start_not b 35 h refl, start_not b 94 h refl)

no_mark : (s : List ℕ) (at : ℕ) → blanks s at ≡ at → eqb (get_or s at 0) 35 ≡ false → eqb (get_or s at 0) 94 ≡ false → mark s at ≡ Miss
unfolding mark tag link marked_at token ◌and◌ ◌else◌
no_mark s at e f g = rw (e, f, g)

-- ---- what is read ends past n, and a string of its rows crosses n

data Past (n : ℕ) : Rows → Type 0 where
  past : (j : ℕ) (xs : List Detail) → n < j → torn n xs ≡ true → Past n (To j xs)
  none : Past n Miss
  hard : (k : Cause) (p : ℕ) → Past n (Hard k p)

more_past : {n : ℕ} (xs : List Detail) {a : Rows} → Past n a → Past n (more xs a)
unfolding more
more_past {n} xs (past j ys l e) = past j (xs ++ ys) l (torn_right n xs ys e)
more_past xs none = none
more_past xs (hard k p) = hard k p

and_past : (n m i : ℕ) (a : Rows) (g : ℕ → Rows) → Reach m i a → ((j : ℕ) → i ≤ j → j ≤ m → Past n (g j)) → Past n (a and g)
unfolding ◌and◌
and_past n m i (To j xs) g r f = more_past xs (f j r.ends.0 r.ends.1)
and_past n m i Miss g r f = none
and_past n m i (Hard k p) g r f = hard k p

past_else : {n m : ℕ} {a : Rows} (c : Rows) (j : ℕ) (xs : List Detail) → Past n a → n < j → torn n xs ≡ true → Agrees n m false (a else To j xs) c
unfolding ◌else◌
past_else c j xs (past i ys l e) h f = crosses i ys l e tt
past_else c j xs none h f = crosses j xs h f tt
past_else c j xs (hard k p) h f = refuses k p

-- ---- the parts

-- what is left of the texts after a first string at a, which ends at e
abbrev second : List ℕ → ℕ → ℕ → Rows
second s a e = (gap s e and λ b. string s b and λ f. To f (span 21 (a + 1) (e - 1) ∷ span 22 (b + 1) (f - 1) ∷ [])) else To e (span 22 (a + 1) (e - 1) ∷ [])

-- and after the texts
abbrev rest : List ℕ → ℕ → Rows
rest s at = marks s at and λ c. must missing c (line_end s c) and λ d. metadata s d and λ e. body s e

lines_reach : (s : List ℕ) (at : ℕ) → at ≤ length s → Reach (length s) at (metadata s at and λ e. body s e)
lines_reach s at h =
    and_reach (length s) at at (metadata s at) _ (metadata_reach s at h) (λ e p q. reach_from (length s) e at (body s e) p (body_reach s e q))

rest_reach : (s : List ℕ) (at : ℕ) → at ≤ length s → Reach (length s) at (rest s at)
rest_reach s at h =
    let n = length s in
    and_reach n at at (marks s at) _ (marks_reach s at h) (λ c p₁ q₁.
    and_reach n c at (must missing c (line_end s c)) _ (must_reach n c required c _ q₁ (line_reach s c q₁)) (λ d p₂ q₂. reach_from n d at _ (omega arith) (lines_reach s d q₂)))

rest_sure : (s : List ℕ) (at : ℕ) → Sure (rest s at)
unfolding marks
rest_sure s at = sure_and _ (sure_many _ _ at) (λ c. sure_and _ (sure_must missing c _) (λ d. sure_and _ (sure_metadata s d) (sure_body s)))

module _ (front t : List ℕ) (b : ℕ) (B : is_start b ≡ true) where
  abbrev X : List ℕ
  X = xs front t b B

  abbrev S : List ℕ
  S = s front t b B

  abbrev M : ℕ
  M = length X

  abbrev N : ℕ
  N = length S

  abbrev C : Shared (Unit {0}) S X (Upto M) (Upto (suc M))
  C = cut front t b B

  opening_same : (at : ℕ) → at < M → Same (suc M) (opening S at) (opening X at)
  unfolding opening
  opening_same at h =
      let T : Upto (suc M) (at + 1) (at + 1) = upto (at + 1) (omega arith) in
      else_alike (and_alike _ _ (flag_alike C (upto at h) T) (λ c d U. both_to c d _ _ U (λ _. rw U.same))) (same_below (omega arith) (word_alike C (bytes "txn") txn_lf (upto at h)))

  -- ---- tags and links, also at the cut

  mark_below : (at : ℕ) → at < M → Same M (mark S at) (mark X at)
  unfolding mark
  mark_below at h =
      let T = blanks_alike C (upto at h) in
      else_alike (and_alike _ _ (tag_alike C T) (λ c d U. both_to c d _ _ U (λ q. rw (told C T q, told C U q)))) (and_alike _ _ (link_alike C T) (λ c d U. both_to c d _ _ U (λ q. rw (told C T q, told C U q))))

  longer_mark : mark S M ≡ Miss
  longer_mark =
      let k = start_not_mark b B in
      no_mark S M (run_stops is_blank S M (omega (arith, length-append X (ys front t b B))) (rw (seam front t b B) (start_bounds b B).blank))
      (rw (seam front t b B) k.0) (rw (seam front t b B) k.1)

  cut_mark : mark X M ≡ Miss
  cut_mark = no_mark X M (run_ends is_blank X M (omega arith)) (rw (past_end front t b B) refl) (rw (past_end front t b B) refl)

  mark_same : (at : ℕ) → at < suc M → Same (suc M) (mark S at) (mark X at)
  mark_same = at_seam front t b B (λ at. Same (suc M) (mark S at) (mark X at))
      (λ at h. same_below (omega arith) (mark_below at h)) (miss_same (suc M) (mark S M) (mark X M) longer_mark cut_mark)

  marks_same : (at : ℕ) → at < suc M → Same (suc M) (marks S at) (marks X at)
  unfolding marks
  marks_same at h =
      many_alike N M (λ i j T. omega (arith, T.same, T.below, longer front t b B)) (mark S) (mark X) (λ i j T. rw T.same (mark_same j T.below)) (mark_reach S) (mark_reach X)
      (suc N) (suc M) at at (upto at h) (omega arith) (omega arith)

  -- ---- the strings

  second_agree : (a e : ℕ) → e < M → Agrees M M false (second S a e) (second X a e)
  second_agree a e h =
      else_agree {t = true} (and_agree (gap_alike C (upto e h)) (λ g h₁.
      string_agree front t b B (λ lo hi. span 21 (a + 1) (e - 1) ∷ span 22 lo hi ∷ [])
      (λ lo hi p q. torn_right M (span 21 (a + 1) (e - 1) ∷ []) (span 22 lo hi ∷ []) (span_torn M 22 lo hi p q refl [])) g (omega arith)))
      (same_agree (to_same M e (span 22 (a + 1) (e - 1) ∷ []) h))

  -- where the first crosses, so do the rows
  second_torn : (a e : ℕ) (c : Rows) → a + 1 < M → M < e - 1 → e ≤ N → Agrees M M false (second S a e) c
  second_torn a e c h k l =
      past_else c e _
      (and_past M N (e + 1) (gap S e) _ (gap_reach S e l) (λ g p q.
      and_past M N (g + 1) (string S g) _ (string_reach S g) (λ f u v. past f _ (omega arith) (span_torn M 21 (a + 1) (e - 1) h k refl _))))
      (omega arith) (span_torn M 22 (a + 1) (e - 1) h k refl _)

  first_agree : (a : ℕ) → a < M → Agrees M M false (string S a and λ e. second S a e) (string X a and λ e. second X a e)
  unfolding string token ◌and◌ more
  first_agree a h = go (seen front t b B a (omega arith))
    where
      go : Seen front t b B a → Agrees M M false (string S a and λ e. second S a e) (string X a and λ e. second X a e)
      go (missed p q) = rw (p, q) misses
      go (read e l p q) = rw (p, q) (more_agree [] (second_agree a e l))
      go (crossed e k l p q) = rw (p, q) (more_agree [] (second_torn a e Miss k l (string_ends S a e p)))

  texts_agree : (at : ℕ) → at < suc M → Agrees M M false (texts S at) (texts X at)
  unfolding texts
  texts_agree at h = and_agree (gap_same front t b B at h) (λ a h₁. first_agree a h₁)

  -- ---- all

  lines_agree : (at : ℕ) → at < suc M → Agrees M (suc M) false (metadata S at and λ e. body S e) (metadata X at and λ e. body X e)
  lines_agree at h =
      and_loose N (metadata_agree front t b B at h) (metadata_reach S at (omega (arith, longer front t b B))) (λ e _ l. body_agree front t b B e l)
      (λ j p q. body_reach S j q) (sure_body S)

  rest_agree : (at : ℕ) → at < suc M → Agrees M (suc M) false (rest S at) (rest X at)
  rest_agree at h =
      and_agree (marks_same at h) (λ c h₁.
      let l : c ≤ N = omega (arith, longer front t b B) in
      and_loose N (line_agree front t b B missing c h₁) (must_reach N c required c _ l (line_reach S c l)) (λ d _ l. lines_agree d l)
      (λ j p q. lines_reach S j q) (λ j. sure_and _ (sure_metadata S j) (sure_body S)))

  pub transaction_agree : (at : ℕ) → at < M → Agrees M (suc M) false (transaction S at) (transaction X at)
  unfolding transaction
  transaction_agree at h =
      and_agree (opening_same at h) (λ a h₁.
      let l : a ≤ N = omega (arith, longer front t b B) in
      and_loose N (maybe_agree a h₁ (agree_below (suc M) (omega arith) (texts_agree a h₁))) (optional_reach N a _ l (texts_reach S a l)) (λ c _ k. rest_agree c k)
      (λ j p q. rest_reach S j q) (rest_sure S))
