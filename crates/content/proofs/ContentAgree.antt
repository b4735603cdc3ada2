-- Locality of rule 10's contents with a string, and of what follows a content: what follows a text that ends in a line
-- feed does not count, if it starts with a boundary's byte, but for strings, which may cross the cut. M is the text's
-- length: below it a place stands inside a line.
use Rattle.text.specs.declared.stop.Cause.{Cause}
use Rattle.std.specs.Prelude.{None, Some}
use Prim.Native.Nat.{ℕ, suc, ◌+◌, ◌≤◌, ◌<◌}
use native.Mathlib.Omega.{arith}
use mathlib.Core.Path.{◌≡◌, refl, sym, ◌∙◌, ap, subst}
use mathlib.Core.Bool.{Bool, true, false, cond}
use mathlib.Core.List.{List, []}
use borrow.Author.Tests.{lt-leb}
use lib.Dec.{ltb}
use lib.ListN.{length, get_or}
use Rattle.text.specs.Run.{blanks}
use Rattle.text.specs.Lines.{gap_at, comment_end, eol_at, line_end_at}
use Rattle.text.specs.Answer.{To, Miss, more, ◌and◌, maybe}
use Rattle.text.specs.Leaves.{token, gap, hard_gap, line_end}
use Rattle.text.proofs.Steps.{byte_within}
use Rattle.text.proofs.Joins.{required, Reach, reach_from, and_reach, and_parts}
use Rattle.text.proofs.Alike.{Same, Upto, upto, same_eq, same_ends, and_alike, maybe_alike}
use Rattle.text.proofs.SharedLines.{Shared, gap_alike, line_alike, hard_gap_alike}
use Rattle.text.specs.Boundaries.{is_start}
use Rattle.text.proofs.TokenEnds.{line_reach, hard_gap_reach}
use Rattle.text.proofs.TextCut.{xs, s, cut, same_byte}
use Rattle.text.specs.Refusals.{missing}
use Rattle.amount.specs.declared.detail.Detail.{Detail}
use Rattle.amount.specs.Details.{Rows, span, quoted}
use Rattle.row.proofs.SureLaws.{Sure, sure_must, sure_and}
use Rattle.posting.specs.Metadata.{metadata}
use Rattle.posting.proofs.PostingEnds.{metadata_reach}
use Rattle.posting.proofs.Agree.{Agrees, misses, refuses, reads, crosses, torn_more, more_agree, must_agree, and_agree, and_loose, assoc_agree}
use Rattle.posting.proofs.StringAgree.{quoted_span}
use Rattle.posting.proofs.PostingAgree.{quote_at, longer, metadata_agree}
use Rattle.content.specs.Contents.{hard_string, booking, open_of, event_of}
use Rattle.content.proofs.ContentAlike.{hard_account_alike, currencies_alike}
use Rattle.content.proofs.ContentEnds.{booking_reach, hard_string_reach}

-- line end and metadata, which follow a content
abbrev pub ending : List ℕ → ℕ → Rows
ending s m = line_end s m and λ l. metadata s l

pub ending_reach : (s : List ℕ) (at : ℕ) → at ≤ length s → Reach (length s) at (ending s at)
ending_reach s at h =
    and_reach (length s) at at (line_end s at) _ (line_reach s at h) (λ l p q. reach_from (length s) l at (metadata s l) p (metadata_reach s l q))

-- ---- after a gap that ends at a quote no line ends

quote_line : (s : List ℕ) (at : ℕ) → get_or s (blanks s at) 0 ≡ 34 → line_end {A = Detail} s at ≡ Miss
unfolding line_end token line_end_at comment_end eol_at
quote_line s at e = rw (e, e, lt-leb (length s) (blanks s at) (byte_within s (blanks s at) 34 (sym e) (omega arith)))

gap_quote : (s : List ℕ) (at g : ℕ) (x : List Detail) → gap s at ≡ To g x → get_or s g 0 ≡ 34 → line_end {A = Detail} s at ≡ Miss
unfolding gap gap_at token
gap_quote s at g x e f = go (ltb at (blanks s at)) e
  where
    go : (c : Bool) → ◌≡◌ {A = Rows} (token (cond c (Some (blanks s at)) None)) (To g x) → line_end {A = Detail} s at ≡ Miss
    go true e = let z : blanks s at ≡ g = cc in quote_line s at (rw z f)
    go false e = absurd (let z : ◌≡◌ {A = ℕ} 0 1 = cc in omega arith)

hard_gap_sure : (n : Cause) (s : List ℕ) (at : ℕ) → Sure (hard_gap n s at)
unfolding hard_gap
hard_gap_sure n s at = sure_must n at _

hard_string_sure : (s : List ℕ) (at : ℕ) → Sure (hard_string s at)
unfolding hard_string
hard_string_sure s at = sure_must missing at _

module _ (front t : List ℕ) (b : ℕ) (B : is_start b ≡ true) where
  abbrev X : List ℕ
  X = xs front t b B

  abbrev S : List ℕ
  S = s front t b B

  abbrev M : ℕ
  M = length X

  abbrev N : ℕ
  N = length S

  abbrev C : Shared (Unit {0}) S X (Upto M) (Upto (suc M))
  C = cut front t b B

  -- ---- event: its strings

  pub hard_string_agree : (at : ℕ) → at < M → Agrees M M false (hard_string S at) (hard_string X at)
  unfolding hard_string
  hard_string_agree at h = must_agree missing at (quoted_span front t b B 34 refl at (omega arith))

  pub option_string_agree : (at : ℕ) → at < M → Agrees M M true (quoted (span 34) S at) (quoted (span 34) X at)
  option_string_agree at h = quoted_span front t b B 34 refl at (omega arith)

  pub event_of_agree : (at : ℕ) → at < M → Agrees M M false (event_of S at) (event_of X at)
  unfolding event_of
  event_of_agree at h =
      and_loose N (hard_string_agree at h) (hard_string_reach S at (omega (arith, longer front t b B)))
      (λ a _ h₁. and_agree (hard_gap_alike C missing (upto a h₁)) (λ g h₂. hard_string_agree g h₂))
      (λ a p q. and_reach N (a + 1) a (hard_gap missing S a) _ (hard_gap_reach S a required q) (λ g u v. reach_from N (g + 1) a (hard_string S g) (omega arith) (hard_string_reach S g v)))
      (λ a. sure_and _ (hard_gap_sure missing S a) (hard_string_sure S))

  -- ---- open: its booking, with what follows

  pub ending_agree : (at : ℕ) → at < M → Agrees M (suc M) false (ending S at) (ending X at)
  ending_agree at h = and_agree (line_alike C (upto at h)) (λ l h₁. metadata_agree front t b B l h₁)

  booking_agree : (at : ℕ) → at < M → Agrees M M true (booking S at) (booking X at)
  unfolding booking
  booking_agree at h = and_agree (gap_alike C (upto at h)) (λ g h₁. quoted_span front t b B 32 refl g (omega arith))

  -- where one is read, no line ends before it
  booked : (at j : ℕ) (x : List Detail) → at < M → booking S at ≡ To j x → line_end {A = Detail} X at ≡ Miss
  unfolding booking
  booked at j x h e =
      let p = and_parts (gap S at) (λ g. quoted (span 32) S g) j x e in
      let G = gap_alike C {A = Detail} (upto at h) in
      let i = p.0 in
      let g : gap X at ≡ To i p.1 = sym (same_eq G) ∙ p.4 in
      let l : i < M = same_ends (subst (λ a. Same M (gap S at) a) g G) in
      gap_quote X at i p.1 g (sym (same_byte front t b B i l) ∙ quote_at (span 32) S i p.2 p.3 p.5)

  booking_ending : (at : ℕ) → at < M → Agrees M (suc M) false (maybe at (booking S at) and ending S) (maybe at (booking X at) and ending X)
  unfolding maybe ◌and◌ more
  booking_ending at h = go (booking S at) (booking X at) refl (booking_agree at h) (booking_reach S at (omega (arith, longer front t b B)))
    where
      go : (a c : Rows) → booking S at ≡ a → Agrees M M true a c → Reach N (at + 1) a → Agrees M (suc M) false (maybe at a and ending S) (maybe at c and ending X)
      go a c e misses r = more_agree [] (ending_agree at h)
      go a c e (refuses k p) r = refuses k p
      go a c e (reads j x l) r = more_agree x (ending_agree j l)
      go a c e (crosses j x l q o) r =
          let lost : (line_end X at and λ l. metadata X l) ≡ Miss = ap (λ (z : Rows). z and λ l. metadata X l) (booked at j x h e) in
          torn_more N M (suc M) false j x (maybe at c and ending X) (ending S j) l q (ending_reach S j r.ends.1) tt (λ _. ap (λ z. maybe at z and ending X) o ∙ ap (more []) lost)

  pub open_ending : (at : ℕ) → at < M → Agrees M (suc M) false (open_of S at and ending S) (open_of X at and ending X)
  unfolding open_of
  open_ending at h =
      assoc_agree _ _ _ _ _ _ (and_agree (hard_account_alike C (upto at h)) (λ a h₁.
      assoc_agree _ _ _ _ _ _ (and_agree (maybe_alike a a (upto a h₁) (and_alike _ _ (gap_alike C (upto a h₁)) (λ c d T. currencies_alike C T))) booking_ending)))
