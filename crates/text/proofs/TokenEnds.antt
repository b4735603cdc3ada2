-- Where the token readers end: what is read ends after its start and within the text, where a refusal stands too.
use Rattle.text.specs.declared.stop.Cause.{Cause}
use Rattle.text.specs.declared.stop.Stop.{Stop}
use Rattle.std.specs.Prelude.{None, Option, Some, Err, Ok}
use Prim.Native.Nat.{ℕ, ◌+◌, ◌-◌, ◌≤◌, ◌<◌}
use native.Mathlib.Omega.{arith}
use mathlib.Core.Path.{◌≡◌, refl, sym}
use mathlib.Core.Bool.{Bool, true, false, cond, ◌&&◌}
use mathlib.Core.List.{List, []}
use borrow.Author.Tests.{eqb-true, ltb-true, leb-true}
use lib.Dec.{eqb, leb, ltb}
use lib.ListN.{length, drop, get_or, length-drop}
use Rattle.text.specs.Bytes.{is_blank, is_capital, is_digit, in_comment, in_account, in_currency, in_tag, in_link, starts_part}
use Rattle.text.specs.Run.{run_to, blanks}
use Rattle.text.specs.Lines.{gap_at, comma_at, comment_end, eol_at, line_end_at, empty_at}
use Rattle.text.specs.Dates.{like_shape, date_shape, two, date_in, date_at}
use Rattle.text.specs.Strings.{string_at}
use Rattle.text.specs.Currencies.{currency_at}
use Rattle.text.specs.Words.{starts_with, word_at}
use Rattle.text.specs.Tags.{marked_at}
use Rattle.text.specs.Refusals.{missing_part}
use Rattle.text.specs.Answer.{To, Miss}
use Rattle.text.specs.Leaves.{token, dated, gap, comma, line_end, empty_line, string, currency, tag, link, date, word, byte, hard_gap}
use Rattle.text.specs.Accounts.{account}
use Rattle.text.specs.steps.Accounts.{part_follows, parts_from, account_at, account_answer}
use Rattle.text.proofs.TestLaws.{and_right}
use Rattle.text.proofs.Steps.{byte_within, such_within, run_from_lem, run_within}
use Rattle.text.proofs.AccountLaws.{account_answers, parts_from_lem}
use Rattle.text.proofs.Joins.{Listed, second_part, Reach, to_reach, miss_reach, hard_reach, must_reach, cond_reach}
use Rattle.text.proofs.StringSame.{string_ahead, string_ends}
use Rattle.text.proofs.Compared.{word_compares, shape_compares, compared_length}

-- ---- runs

pub run_reach : (p : ℕ → Bool) (s : List ℕ) (at : ℕ) → at ≤ length s → (at ≤ run_to p s at) × (run_to p s at ≤ length s)
run_reach p s at h = (run_from_lem p s at (run_to p s at) refl, run_within p s at (run_to p s at) refl h)

-- ---- lines

comment_reach : (s : List ℕ) (at : ℕ) → at ≤ length s → (at ≤ comment_end s at) × (comment_end s at ≤ length s)
unfolding comment_end
comment_reach s at h = go (eqb (get_or s at 0) 59) refl
  where
    go : (b : Bool) → eqb (get_or s at 0) 59 ≡ b → (at ≤ cond b (run_to in_comment s (at + 1)) at) × (cond b (run_to in_comment s (at + 1)) at ≤ length s)
    go true e = let l = such_within (λ x. eqb x 59) s at (get_or s at 0) refl refl e in omega (arith, run_reach in_comment s (at + 1) (omega arith))
    go false e = omega arith

-- a token that is read to j if a test passes
tested_reach : {A : Type 0} (n k : ℕ) (t : Bool) (j : ℕ) → (t ≡ true → (k ≤ j) × (j ≤ n)) → Reach n k (token {A = A} (cond t (Some j) None))
unfolding token
tested_reach n k true j f = record { ends = f refl }
tested_reach n k false j f = miss_reach n k

module _ {A : Type 0} (s : List ℕ) where
  -- the end of a line takes a byte, or is the end of the text
  eol_reach : (at k : ℕ) → k ≤ at + 1 → k ≤ length s → at ≤ length s → Reach (length s) k (token {A = A} (eol_at s at))
  unfolding eol_at token
  eol_reach at k h f l =
      cond_reach token (length s) k (eqb (get_or s at 0) 10) (Some (at + 1)) _
      (λ e. let m = such_within (λ x. eqb x 10) s at (get_or s at 0) refl refl e in to_reach (length s) k (at + 1) [] h (omega arith))
      (λ _. cond_reach token (length s) k (eqb (get_or s at 0) 13 && eqb (get_or s (at + 1) 0) 10) (Some (at + 2)) _
      (λ e.
      let m = such_within (λ x. eqb x 10) s (at + 1) (get_or s (at + 1) 0) refl refl (and_right (eqb (get_or s at 0) 13) (eqb (get_or s (at + 1) 0) 10) e) in
      to_reach (length s) k (at + 2) [] (omega arith) (omega arith))
      (λ _. tested_reach (length s) k (leb (length s) at) at (λ e. omega (arith, leb-true (length s) at e))))

  line_from : (at k : ℕ) → k ≤ at + 1 → k ≤ length s → at ≤ length s → Reach (length s) k (token {A = A} (line_end_at s at))
  unfolding line_end_at
  line_from at k h f l =
      let b = run_reach is_blank s at l in
      let c = comment_reach s (blanks s at) b.1 in
      eol_reach (comment_end s (blanks s at)) k (omega arith) f c.1

module _ {A : Type 0} (s : List ℕ) (at : ℕ) where
  pub gap_reach : at ≤ length s → Reach (length s) (at + 1) (gap {A = A} s at)
  unfolding gap gap_at
  gap_reach h = tested_reach (length s) (at + 1) (ltb at (blanks s at)) (blanks s at) (λ e. omega (arith, ltb-true at (blanks s at) e, run_reach is_blank s at h))

  pub comma_reach : at ≤ length s → Reach (length s) (at + 1) (comma {A = A} s at)
  unfolding comma comma_at
  comma_reach h =
      let b = blanks s at in
      tested_reach (length s) (at + 1) (eqb (get_or s b 0) 44) (blanks s (b + 1))
      (λ e.
      let l = such_within (λ x. eqb x 44) s b (get_or s b 0) refl refl e in
      omega (arith, run_reach is_blank s at h, run_reach is_blank s (b + 1) (omega arith)))

  pub hard_gap_reach : {n : Cause} (w : Listed n) → at ≤ length s → Reach (length s) (at + 1) (hard_gap {A = A} n s at)
  unfolding hard_gap
  hard_gap_reach w h = must_reach (length s) (at + 1) w at (gap s at) h (gap_reach h)

  pub line_reach : at ≤ length s → Reach (length s) at (line_end {A = A} s at)
  unfolding line_end
  line_reach h = line_from s at at (omega arith) h h

  pub empty_reach : at ≤ length s → Reach (length s) (at + 1) (empty_line {A = A} s at)
  unfolding empty_line empty_at token
  empty_reach h =
      cond_reach token (length s) (at + 1) (ltb at (length s)) (line_end_at s at) None
      (λ e. line_from s at (at + 1) (omega arith) (omega (arith, ltb-true at (length s) e)) h) (λ _. miss_reach (length s) (at + 1))

-- ---- the other tokens

module _ {A : Type 0} (s : List ℕ) (at : ℕ) where
  pub string_reach : Reach (length s) (at + 1) (string {A = A} s at)
  unfolding string token
  string_reach = go (string_at s at) refl
    where
      go : (r : Option ℕ) → string_at s at ≡ r → Reach (length s) (at + 1) (token {A = A} r)
      go (Some j) e = to_reach (length s) (at + 1) j [] (omega (arith, string_ahead s at j e)) (string_ends s at j e)
      go None e = miss_reach (length s) (at + 1)

  pub account_reach : Reach (length s) (at + 1) (account {A = A} s at)
  unfolding account_at account_answer starts_part is_capital is_digit
  account_reach =
      rw (account_answers s at) (cond_reach (account_answer) (length s) (at + 1) (starts_part (get_or s at 0)) _ (Err Stop.Miss)
      (λ e.
      let l = such_within starts_part s at (get_or s at 0) refl refl e in
      let j = run_to in_account s (at + 1) in
      let r = run_reach in_account s (at + 1) (omega arith) in
      let q = parts_from_lem (drop j s) j in
      cond_reach (account_answer) (length s) (at + 1) (part_follows s j) (Ok (parts_from (drop j s) j)) (Err (Stop.Hard missing_part at))
      (λ _. to_reach (length s) (at + 1) (parts_from (drop j s) j) [] (omega arith) (omega (arith, length-drop j s))) (λ _. hard_reach (length s) (at + 1) second_part at (omega arith)))
      (λ _. miss_reach (length s) (at + 1)))

  pub currency_reach : Reach (length s) (at + 1) (currency {A = A} s at)
  unfolding currency currency_at token is_capital
  currency_reach =
      cond_reach token (length s) (at + 1) (is_capital (get_or s at 0)) _ None
      (λ e.
      let l = such_within is_capital s at (get_or s at 0) refl refl e in
      let j = run_to in_currency s (at + 1) in
      tested_reach (length s) (at + 1) (starts_part (get_or s (j - 1) 0)) j (λ _. run_reach in_currency s (at + 1) (omega arith)))
      (λ _. miss_reach (length s) (at + 1))

  pub byte_reach : (c : ℕ) → 0 < c → Reach (length s) (at + 1) (byte {A = A} c s at)
  unfolding byte
  byte_reach c h =
      cond_reach (λ x. x) (length s) (at + 1) (eqb (get_or s at 0) c) (To (at + 1) []) Miss
      (λ e. to_reach (length s) (at + 1) (at + 1) [] (omega arith) (omega (arith, byte_within s at c (sym (eqb-true (get_or s at 0) c e)) h)))
      (λ _. miss_reach (length s) (at + 1))

  marked_reach : (m : ℕ) (p : ℕ → Bool) → 0 < m → Reach (length s) (at + 1) (token {A = A} (marked_at m p s at))
  unfolding marked_at
  marked_reach m p h =
      tested_reach (length s) (at + 1) (eqb (get_or s at 0) m) (run_to p s (at + 1))
      (λ e. let l = byte_within s at m (sym (eqb-true (get_or s at 0) m e)) h in run_reach p s (at + 1) (omega arith))

  pub tag_reach : Reach (length s) (at + 1) (tag {A = A} s at)
  unfolding tag
  tag_reach = marked_reach 35 in_tag (omega arith)

  pub link_reach : Reach (length s) (at + 1) (link {A = A} s at)
  unfolding link
  link_reach = marked_reach 94 in_link (omega arith)

  pub word_reach : at ≤ length s → (w : List ℕ) → Reach (length s) (at + length w) (word {A = A} w s at)
  unfolding word word_at
  word_reach h w =
      tested_reach (length s) (at + length w) (starts_with w (drop at s)) (at + length w)
      (λ e. omega (arith, compared_length starts_with word_compares w (drop at s) e, length-drop at s))

pub date_reach : (s : List ℕ) (at : ℕ) → at ≤ length s → Reach (length s) (at + 10) (date s at)
unfolding date date_at date_in dated
date_reach s at h =
    cond_reach dated (length s) (at + 10) (like_shape date_shape (drop at s)) _ None
    (λ e.
    let l = compared_length like_shape shape_compares date_shape (drop at s) e in
    let m = two s (at + 5) in
    let d = two s (at + 8) in
    cond_reach dated (length s) (at + 10) (leb 1 m && leb m 12 && leb 1 d && leb d 31) (Some ((at + 10), _)) None
    (λ _. to_reach (length s) (at + 10) (at + 10) _ (omega arith) (omega (arith, length-drop at s))) (λ _. miss_reach (length s) (at + 10)))
    (λ _. miss_reach (length s) (at + 10))
