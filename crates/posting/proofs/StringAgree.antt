-- Rule 5's strings, which may cross the cut: on the text that ends there, a string that would end past it is a miss.
use Rattle.std.specs.Prelude.{None, Option, Some}
use Prim.Native.Nat.{ℕ, suc, ◌+◌, ◌-◌, ◌<◌}
use native.Mathlib.Omega.{arith}
use native.Mathlib.Decide.{dec_lt}
use mathlib.Core.Path.{◌≡◌, refl, sym, ◌∙◌, ap}
use mathlib.Core.Bool.{Bool, true, false, cond}
use mathlib.Core.List.{List, [], ◌∷◌}
use borrow.Author.Tests.{eqb-true, lt-leb, le-leb, lt-ltb}
use lib.Dec.{eqb}
use lib.ListN.{length, drop, get_or, length-append}
use lib.Seq.{get_or-drop}
use Rattle.text.specs.Bytes.{is_digit, is_small, is_ordinary, is_escaped}
use Rattle.text.specs.Strings.{str_from, esc_from, string_at}
use Rattle.text.specs.Answer.{To, more, ◌and◌}
use Rattle.text.specs.Leaves.{token, string}
use Rattle.text.proofs.TestLaws.{absurd_bool}
use Rattle.text.proofs.StringSame.{within, string_cut, string_stays}
use Rattle.text.proofs.InLine.{start_not}
use Rattle.text.proofs.Alike.{upto}
use Rattle.text.proofs.SharedLines.{step}
use Rattle.text.proofs.TextCut.{xs, ys, s, cut, seam}
use Rattle.text.specs.Boundaries.{is_start}
use Rattle.amount.specs.declared.detail.Detail.{Detail}
use Rattle.amount.specs.Details.{span, named, quoted}
use Rattle.posting.proofs.Agree.{spans_string, torn_by, torn, Agrees, misses, reads, crosses}

-- ---- a string starts and ends with a quote

missed_to : {A : Type 0} (j : ℕ) → ◌≡◌ {A = Option ℕ} None (Some j) → A
missed_to j e = absurd (let z : ◌≡◌ {A = ℕ} 0 1 = cc in omega arith)

-- of r, which starts at place i, the byte before place j is a quote
abbrev Quote : List ℕ → ℕ → ℕ → Type 0
Quote r i j = (i < j) × (get_or r (j - 1 - i) 0 ≡ 34)

quote_step : (x : ℕ) (r : List ℕ) (i j : ℕ) → Quote r (i + 1) j → Quote (x ∷ r) i j
quote_step x r i j h = let e : j - 1 - i ≡ suc (j - 1 - (i + 1)) = omega arith in (omega arith, rw e h.1)

mutual
  unfolding str_from esc_from

  str_quote : (r : List ℕ) (ordinary : Bool) (i j : ℕ) → str_from ordinary r i ≡ Some j → Quote r i j
  str_quote [] ordinary i j e = missed_to j e
  str_quote (x ∷ r) ordinary i j e = go (is_ordinary x) (eqb x 34) ordinary refl e (λ h. str_quote r true (i + 1) j h) (λ h. esc_quote r (i + 1) j h)
    where
      go : (a b c : Bool) → eqb x 34 ≡ b → cond a (str_from true r (i + 1)) (cond b (Some (i + 1)) (cond c (esc_from r (i + 1)) None)) ≡ Some j
          → (str_from true r (i + 1) ≡ Some j → Quote r (i + 1) j) → (esc_from r (i + 1) ≡ Some j → Quote r (i + 1) j) → Quote (x ∷ r) i j
      go true b c p q f g = quote_step x r i j (f q)
      go false true c p q f g = let k : i + 1 ≡ j = cc in let z : j - 1 - i ≡ 0 = omega arith in (omega arith, rw z (eqb-true x 34 p))
      go false false true p q f g = quote_step x r i j (g q)
      go false false false p q f g = missed_to j q

  esc_quote : (r : List ℕ) (i j : ℕ) → esc_from r i ≡ Some j → Quote r i j
  esc_quote [] i j e = missed_to j e
  esc_quote (x ∷ r) i j e = go (is_escaped x) e (λ h. str_quote r false (i + 1) j h)
    where
      go : (a : Bool) → cond a (str_from false r (i + 1)) None ≡ Some j → (str_from false r (i + 1) ≡ Some j → Quote r (i + 1) j) → Quote (x ∷ r) i j
      go true q g = quote_step x r i j (g q)
      go false q g = missed_to j q

pub string_quotes : (s : List ℕ) (at j : ℕ) → string_at s at ≡ Some j → (at + 1 < j) × (get_or s at 0 ≡ 34) × (get_or s (j - 1) 0 ≡ 34)
unfolding string_at
string_quotes s at j e = go (eqb (get_or s at 0) 34) refl e
  where
    go : (a : Bool) → eqb (get_or s at 0) 34 ≡ a → cond a (str_from false (drop (at + 1) s) (at + 1)) None ≡ Some j → (at + 1 < j) × (get_or s at 0 ≡ 34) × (get_or s (j - 1) 0 ≡ 34)
    go true p q =
        let k = str_quote (drop (at + 1) s) false (at + 1) j q in
        let z : at + 1 + (j - 1 - (at + 1)) ≡ j - 1 = omega arith in
        (k.0, eqb-true (get_or s at 0) 34 p, rw z at (rw get_or-drop at k.1))
    go false p q = missed_to j q

-- ---- rows whose string crosses n

module _ (n k lo hi : ℕ) (p : lo < n) (q : n < hi) where
  pub span_torn : spans_string k ≡ true → (ds : List Detail) → torn n (span k lo hi ∷ ds) ≡ true
  unfolding torn torn_by
  span_torn c ds = rw (c, lt-ltb lo n p, lt-ltb n hi q)

  pub value_torn : (c : ℕ) → torn n (named 35 k c lo hi ∷ []) ≡ true
  unfolding torn torn_by
  value_torn c = rw (lt-ltb lo n p, lt-ltb n hi q)

-- ---- the two readings of a string

module _ (front t : List ℕ) (b : ℕ) (B : is_start b ≡ true) where
  abbrev X : List ℕ
  X = xs front t b B

  abbrev S : List ℕ
  S = s front t b B

  abbrev M : ℕ
  M = length X

  no_quote : is_start b ≡ true → get_or S M 0 ≡ 34 → ⊥
  unfolding is_digit is_small
  no_quote h e = absurd_bool (sym (start_not b 34 h refl) ∙ ap (λ z. eqb z 34) (sym (seam front t b B) ∙ e))

  -- a string that ends past the cut: its content starts before it, and ends past it
  over : (at j : ℕ) → at < suc M → string_at S at ≡ Some j → M < j → (at + 1 < M) × (M < j - 1)
  over at j h e l =
      let q = string_quotes S at j e in (
        elim (dec_lt at M) [
          | yes k ↦ (step (cut front t b B) (λ z. eqb z 34) refl (upto at k) (ap (λ z. eqb z 34) q.1)).below
          | no k ↦ let z : M ≡ at = omega arith in absurd (no_quote B (rw z q.1))
        ],
        elim (dec_lt M (j - 1)) [ yes k ↦ k | no k ↦ let z : M ≡ j - 1 = omega arith in absurd (no_quote B (rw z q.2)) ],
      )

  pub data Seen (at : ℕ) : Type 0 where
    missed : string_at S at ≡ None → string_at X at ≡ None → Seen at
    read : (j : ℕ) → j < M → string_at S at ≡ Some j → string_at X at ≡ Some j → Seen at
    crossed : (j : ℕ) → at + 1 < M → M < j - 1 → string_at S at ≡ Some j → string_at X at ≡ None → Seen at

  pub seen : (at : ℕ) → at < suc M → Seen at
  seen at h = go (string_at S at) refl (string_cut X (ys front t b B) at)
    where
      short : (j : ℕ) → string_at X at ≡ Some j → j < M
      short j e = omega (arith, string_stays front at j e, length-append front (10 ∷ []))

      go : (r : Option ℕ) → string_at S at ≡ r → string_at X at ≡ within M (string_at S at) → Seen at
      go (Some j) e c = elim (dec_lt M j) [
        | yes l ↦ let k = over at j h e l in crossed j k.0 k.1 e (c ∙ rw (e, lt-leb j M l))
        | no l ↦ let f : string_at X at ≡ Some j = c ∙ rw (e, le-leb j M (omega arith)) in read j (short j f) e f
      ]
      go None e c = missed e (c ∙ rw e)

  -- a string with its rows
  pub string_agree : (row : ℕ → ℕ → List Detail) → ((lo hi : ℕ) → lo < M → M < hi → torn M (row lo hi) ≡ true) → (at : ℕ) → at < suc M
      → Agrees M M true (string S at and λ e. To e (row (at + 1) (e - 1))) (string X at and λ e. To e (row (at + 1) (e - 1)))
  unfolding string token ◌and◌ more
  string_agree row f at h = go (seen at h)
    where
      go : Seen at → Agrees M M true (string S at and λ e. To e (row (at + 1) (e - 1))) (string X at and λ e. To e (row (at + 1) (e - 1)))
      go (missed p q) = rw (p, q) misses
      go (read j l p q) = rw (p, q) (reads j (row (at + 1) (j - 1)) l)
      go (crossed j k l p q) = rw (p, q) (crosses j (row (at + 1) (j - 1)) (omega arith) (f (at + 1) (j - 1) k l) refl)

  pub quoted_span : (k : ℕ) → spans_string k ≡ true → (at : ℕ) → at < suc M → Agrees M M true (quoted (span k) S at) (quoted (span k) X at)
  unfolding quoted
  quoted_span k c at h = string_agree (λ lo hi. span k lo hi ∷ []) (λ lo hi p q. span_torn M k lo hi p q c []) at h

  pub quoted_value : (k c at : ℕ) → at < suc M → Agrees M M true (quoted (named 35 k c) S at) (quoted (named 35 k c) X at)
  unfolding quoted
  quoted_value k c at h = string_agree (λ lo hi. named 35 k c lo hi ∷ []) (λ lo hi p q. value_torn M k lo hi p q c) at h
