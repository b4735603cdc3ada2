-- Locality of metadata and postings, whose values may be strings that cross the cut.
use Rattle.text.specs.declared.stop.Cause.{Cause}
use Rattle.std.specs.Prelude.{None, Option, Some}
use Prim.Native.Nat.{ℕ, suc, ◌+◌, ◌-◌, ◌≤◌, ◌<◌}
use native.Mathlib.Omega.{arith}
use mathlib.Core.Path.{◌≡◌, refl, sym, ◌∙◌}
use mathlib.Core.Bool.{true, false}
use mathlib.Core.List.{List, [], ◌∷◌}
use lib.ListN.{length, get_or, length-append}
use Rattle.text.specs.Bytes.{is_capital}
use Rattle.text.specs.Strings.{string_at}
use Rattle.text.specs.Currencies.{currency_at}
use Rattle.text.specs.Answer.{To, Miss, must, ◌then◌, ◌and◌, ◌else◌}
use Rattle.text.specs.Leaves.{token, string, currency, line_end}
use Rattle.text.proofs.InLine.{start_bounds, line_end_misses}
use Rattle.text.proofs.Alike.{Upto, upto}
use Rattle.text.proofs.SharedLines.{Shared, gap_alike, line_alike, byte_alike}
use Rattle.text.specs.Boundaries.{is_start}
use Rattle.text.proofs.TokenEnds.{line_reach}
use Rattle.text.proofs.TextCut.{xs, ys, s, cut, at_seam, same_byte, gap_same, empty_same}
use Rattle.amount.specs.declared.detail.Detail.{Detail}
use Rattle.amount.specs.Details.{named, quoted}
use Rattle.amount.proofs.NoExpression.{no_expression}
use Rattle.row.proofs.SureLaws.{Sure, sure_many}
use Rattle.posting.specs.Metadata.{value, meta_line, meta_step, metadata}
use Rattle.posting.specs.Postings.{posting, body_step, body}
use Rattle.posting.proofs.PostingEnds.{value_reach, meta_step_reach, body_step_reach}
use Rattle.posting.proofs.Agree.{Agrees, refuses, same_agree, must_agree, and_agree, and_strict, else_agree, else_strict, many_agree}
use Rattle.posting.proofs.StringAgree.{string_quotes, quoted_value}
use Rattle.posting.proofs.PostingAlike.{unquoted, key_alike, unquoted_alike, posting_line_alike}

-- ---- where a string stands, nothing else does that rule 16 takes for a value

pub quote_at : (row : ℕ → ℕ → Detail) (s : List ℕ) (at j : ℕ) (x : List Detail) → quoted row s at ≡ To j x → get_or s at 0 ≡ 34
unfolding quoted string token ◌and◌
quote_at row s at j x e = go (string_at s at) refl e
  where
    go : (r : Option ℕ) → string_at s at ≡ r → (token r and λ e. To e (row (at + 1) (e - 1) ∷ [])) ≡ To j x → get_or s at 0 ≡ 34
    go (Some k) p q = (string_quotes s at k p).1
    go None p q = absurd (let z : ◌≡◌ {A = ℕ} 0 1 = cc in omega arith)

module _ (s : List ℕ) (at : ℕ) (e : get_or s at 0 ≡ 34) where
  no_currency : currency {A = Detail} s at ≡ Miss
  unfolding currency token currency_at is_capital
  no_currency = rw e

  no_value : (k c : ℕ) → unquoted k c s at ≡ Miss
  unfolding ◌then◌ ◌and◌ ◌else◌
  no_value k c = rw (no_expression s at e, no_currency)

module _ (front t : List ℕ) (b : ℕ) (B : is_start b ≡ true) where
  abbrev X : List ℕ
  X = xs front t b B

  abbrev S : List ℕ
  S = s front t b B

  abbrev M : ℕ
  M = length X

  abbrev N : ℕ
  N = length S

  abbrev C : Shared (Unit {0}) S X (Upto M) (Upto (suc M))
  C = cut front t b B

  pub longer : M ≤ N
  longer = omega (arith, length-append X (ys front t b B))

  -- a required line end, also at the cut, where it refuses on the longer text
  pub line_agree : (k : Cause) (at : ℕ) → at < suc M → Agrees M (suc M) false (must k at (line_end S at)) (must k at (line_end X at))
  unfolding must line_end token
  line_agree k = at_seam front t b B (λ at. Agrees M (suc M) false (must k at (line_end S at)) (must k at (line_end X at)))
      (λ at h. must_agree k at (same_agree {t = false} (line_alike C (upto at h)))) (rw (line_end_misses X t b (start_bounds b B)) (refuses k M))

  -- ---- rule 16

  value_agree : (k c at : ℕ) → k < M → c < M → at < M → Agrees M M true (value k c S at) (value k c X at)
  unfolding value
  value_agree k c at p q h =
      else_strict (quoted_value front t b B k c at (omega arith)) (same_agree (unquoted_alike C (upto k p) (upto c q) (upto at h)))
      (λ j x e. no_value X at (sym (same_byte front t b B at h) ∙ quote_at (named 35 k c) S at j x e) k c)

  meta_line_agree : (at : ℕ) → at < suc M → Agrees M (suc M) true (meta_line S at) (meta_line X at)
  unfolding meta_line
  meta_line_agree at h =
      and_agree (gap_same front t b B at h) (λ k h₁.
      and_agree (key_alike C (upto k h₁)) (λ c h₂.
      and_agree (byte_alike C 58 refl (upto c h₂)) (λ d h₃.
      and_agree (gap_alike C (upto d h₃)) (λ v h₄.
      and_strict N (value_agree k c v h₁ h₂ h₄) (value_reach S k c v) (λ j h₅. same_agree (line_alike C (upto j h₅))) (λ j p q. line_reach S j q)))))

  meta_step_agree : (at : ℕ) → at < suc M → Agrees M (suc M) false (meta_step S at) (meta_step X at)
  unfolding meta_step
  meta_step_agree at h = else_agree (meta_line_agree at h) (same_agree (empty_same front t b B at h))

  pub metadata_agree : (at : ℕ) → at < suc M → Agrees M (suc M) false (metadata S at) (metadata X at)
  unfolding metadata
  metadata_agree at h = many_agree M N (meta_step S) (meta_step X) longer meta_step_agree (meta_step_reach S) (suc N) (suc M) at h (omega (arith, longer)) (omega arith)

  -- ---- rules 12 and 11

  posting_agree : (at : ℕ) → at < suc M → Agrees M (suc M) false (posting S at) (posting X at)
  unfolding posting
  posting_agree at h =
      and_agree (posting_line_alike C at at (gap_same front t b B at h) (λ i j m. (m, rw m.same (gap_same front t b B (j + 1) (omega (arith, m.below)))))) (λ l h₁. metadata_agree l h₁)

  body_step_agree : (at : ℕ) → at < suc M → Agrees M (suc M) false (body_step S at) (body_step X at)
  unfolding body_step
  body_step_agree at h = else_agree (posting_agree at h) (same_agree (empty_same front t b B at h))

  pub body_agree : (at : ℕ) → at < suc M → Agrees M (suc M) false (body S at) (body X at)
  unfolding body
  body_agree at h = many_agree M N (body_step S) (body_step X) longer body_step_agree (body_step_reach S) (suc N) (suc M) at h (omega (arith, longer)) (omega arith)

-- metadata and postings never miss

pub sure_metadata : (s : List ℕ) (at : ℕ) → Sure (metadata s at)
unfolding metadata
sure_metadata s at = sure_many (meta_step s) (suc (length s)) at

pub sure_body : (s : List ℕ) (at : ℕ) → Sure (body s at)
unfolding body
sure_body s at = sure_many (body_step s) (suc (length s)) at
