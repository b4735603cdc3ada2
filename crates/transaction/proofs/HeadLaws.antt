-- The answers at a transaction's opening and strings, each from what the code knows where it gives it.
use Rattle.text.proofs.TestLaws.{some_pair, tried}
use Rattle.text.specs.steps.Told.{Reading}
use Rattle.text.specs.declared.stop.Stop.{Stop}
use Rattle.std.specs.Prelude.{None, Option, Some, Err, Ok}
use Prim.Native.Nat.{ℕ, ◌+◌, ◌-◌, ◌^◌, ◌≤◌, ◌<◌}
use native.Mathlib.Omega.{arith}
use mathlib.Core.Path.{◌≡◌, refl, sym, ◌∙◌, ap, subst}
use mathlib.Core.Bool.{Bool, true, false, cond, not, ◌&&◌}
use mathlib.Core.List.{List, [], ◌∷◌}
use borrow.Author.Tests.{ne_eqb}
use mir.Syntax.{w64}
use mir.Val.{Fits}
use lib.Dec.{eqb}
use lib.ListN.{length, get_or, drop_of_length-le}
use Rattle.text.specs.Bytes.{bytes, is_small}
use Rattle.text.specs.Answer.{To, Miss, ◌else◌, more, ◌and◌, maybe}
use Rattle.text.specs.Leaves.{token, gap, string, word}
use Rattle.text.specs.Lines.{gap_at}
use Rattle.text.specs.Strings.{string_at}
use Rattle.text.specs.Words.{starts_with, word_at}
use Rattle.text.proofs.Steps.{get_d_past}
use Rattle.text.proofs.StringSame.{string_ahead, string_ends}
use Rattle.amount.specs.Details.{Rows, span}
use Rattle.amount.specs.declared.detail.Detail.{Detail}
use Rattle.row.specs.steps.Pouring.{pour_at}
use Rattle.row.specs.steps.Writing.{laid, noted, Did}
use Rattle.row.specs.declared.writer.Out.{Out}
use Rattle.row.proofs.OutLaws.{noted_room, wrote_none, wrote_one, wrote_then, poured_none}
use Rattle.row.proofs.SureLaws.{Sure, sure_to, sure_else}
use Rattle.row.proofs.DidLaws.{did_read, did_none, maybe_sure}
use Rattle.posting.specs.Postings.{is_flag, flag}
use Rattle.amount.proofs.OneRows.{token_to}
use Rattle.transaction.specs.Transaction.{opening, texts}
use Rattle.transaction.specs.steps.Heads.{bare_ran, txn_ran, with_string, after_gap, gap_string, second_text, texts_of}

-- ---- `txn`: w is the word's answer

module _ (s : List ℕ) (at : ℕ) (o : Out) (w : Option ℕ) (p : w ≡ word_at (116 ∷ 120 ∷ 110 ∷ []) s at) where
  pub txn_read : (e : ℕ) → w ≡ Some e → Ok (e, o) ≡ txn_ran s at o
  unfolding bytes bare_ran
  txn_read e q = ap (λ (x : Option ℕ). bare_ran x o) (sym q ∙ p)

  pub txn_miss : w ≡ None → (Err Stop.Miss) ≡ txn_ran s at o
  unfolding bytes bare_ran
  txn_miss q = ap (λ (x : Option ℕ). bare_ran x o) (sym q ∙ p)

pub ruleset txn_laws = (tried, txn_read, txn_miss)

-- ---- a flag, or `txn`

-- a token writes nothing
token_did : (base : ℕ) (o : Out) (t : List ℕ) (x : Option ℕ) → Did base (token x) o t t (bare_ran x o)
unfolding token bare_ran
token_did base o t (Some e) = did_none base o t e
token_did base o t None = (refl, poured_none o.rows t)

module _ (s : List ℕ) (at : ℕ) where
  flag_none : get_or s at 0 ≡ 0 → flag s at ≡ Miss
  unfolding flag is_flag
  flag_none h = rw h

  flag_small : (b : Bool) → b ≡ is_small (get_or s at 0) → b ≡ true → flag s at ≡ Miss
  unfolding flag is_flag
  flag_small b e h = rw (← e, h) (go (eqb (get_or s at 0) 0))
    where
      go : (c : Bool) → ◌≡◌ {A = Rows} (cond (not c && not true) (To (at + 1) []) Miss) Miss
      go true = refl
      go false = refl

  flag_read : (b : Bool) → (get_or s at 0 ≡ 0 → ⊥) → b ≡ is_small (get_or s at 0) → b ≡ false → flag s at ≡ To (at + 1) []
  unfolding flag is_flag
  flag_read b n e h = rw (ne_eqb (get_or s at 0) 0 n, ← e, h)

  word_past : length s ≤ at → word_at (bytes "txn") s at ≡ None
  unfolding bytes word_at starts_with
  word_past h = rw (drop_of_length-le s {i = at} h)

module _ (base : ℕ) (o : Out) (t : List ℕ) (s : List ℕ) (at : ℕ) where
  opening_word : flag s at ≡ Miss → (r : Reading Out) → r ≡ txn_ran s at o → Did base (opening s at) o t t r
  unfolding opening ◌and◌ ◌else◌ word
  opening_word q r p = rw (q, p) (token_did base o t (word_at (bytes "txn") s at))

  pub opening_none : (r : Reading Out) → get_or s at 0 ≡ 0 → r ≡ txn_ran s at o → Did base (opening s at) o t t r
  opening_none r h p = opening_word (flag_none s at h) r p

  pub opening_small : (b : Bool) (r : Reading Out) → b ≡ is_small (get_or s at 0) → b ≡ true → r ≡ txn_ran s at o → Did base (opening s at) o t t r
  opening_small b r e h p = opening_word (flag_small s at b e h) r p

  pub opening_past : length s ≤ at → Did base (opening s at) o t t (Err Stop.Miss)
  unfolding bare_ran
  opening_past h = opening_word (flag_none s at (get_d_past s at h)) (Err Stop.Miss) (ap (λ (x : Option ℕ). bare_ran x o) (sym (word_past s at h)))

  opening_to : flag s at ≡ To (at + 1) [] → opening s at ≡ To (at + 1) (span 20 at (at + 1) ∷ [])
  unfolding opening ◌and◌ more ◌else◌
  opening_to q = rw q

  pub opening_flag : (b : Bool) (m : Out) (u : List ℕ) → (get_or s at 0 ≡ 0 → ⊥) → b ≡ is_small (get_or s at 0) → b ≡ false
      → m ≡ noted o (span 20 at (at + 1)) → u ≡ pour_at o.rows (laid base (span 20 at (at + 1)) ∷ []) t → Did base (opening s at) o t u (Ok ((at + 1), m))
  opening_flag b m u n e h q v =
      let d = span 20 at (at + 1) in
      did_read base o t (opening s at) (at + 1) (d ∷ []) m u (opening_to (flag_read s at b n e h)) (wrote_one base o t d m u q v)

pub ruleset opening_laws = (opening_none, opening_small, opening_past, opening_flag)

-- ---- a gap and a string

module _ (s : List ℕ) (at : ℕ) (g : Option ℕ) (p : g ≡ gap_at s at) where
  pub spaced_none : g ≡ None → None ≡ gap_string s at
  unfolding after_gap
  spaced_none q = rw (← p, q)

  module _ (a : ℕ) (q : g ≡ Some a) (x : Option ℕ) (w : x ≡ string_at s a) where
    pub spaced_read : (e : ℕ) → x ≡ Some e → Some (a, e) ≡ gap_string s at
    unfolding after_gap with_string
    spaced_read e n = rw (← p, q, ← w, n)

    pub spaced_open : x ≡ None → None ≡ gap_string s at
    unfolding after_gap with_string
    spaced_open n = rw (← p, q, ← w, n)

pub ruleset spaced_laws = (spaced_none, spaced_read, spaced_open)

-- what was read, and what was not
both_read : (s : List ℕ) (g : Option ℕ) (a e : ℕ) → after_gap s g ≡ Some (a, e) → (g ≡ Some a) × (string_at s a ≡ Some e)
unfolding after_gap with_string
both_read s (Some b) a e q = go (string_at s b) refl q
  where
    go : (y : Option ℕ) → string_at s b ≡ y → with_string b y ≡ Some (a, e) → (Some b ≡ Some a) × (string_at s a ≡ Some e)
    go (Some f) n m =
        let i = some_pair m in
        (ap Some i.0, rw (← i.0, ← i.1) n)
    go None n m = (cc, cc)
both_read s None a e q = (cc, cc)

not_both : (s : List ℕ) (g : Option ℕ) (k : ℕ → ℕ → Rows) → after_gap s g ≡ None → (token g and λ a. token (string_at s a) and k a) ≡ Miss
unfolding after_gap with_string token ◌and◌ more
not_both s (Some b) k q = go (string_at s b) q
  where
    go : (y : Option ℕ) → with_string b y ≡ None → more [] (token y and k b) ≡ Miss
    go (Some f) m = cc
    go None m = refl
not_both s None k q = refl

-- x is the code's answer
module _ (s : List ℕ) (at : ℕ) (x : Option (ℕ × ℕ)) (p : x ≡ gap_string s at) where
  spaced_to : (k : ℕ → ℕ → Rows) (a e : ℕ) → x ≡ Some (a, e) → (gap s at and λ a. string s a and k a) ≡ k a e
  unfolding gap string
  spaced_to k a e q =
      let h = both_read s (gap_at s at) a e (sym p ∙ q) in
      token_to (Some a) (gap_at s at) (sym h.0) (λ a. token (string_at s a) and k a) a refl ∙ token_to (Some e) (string_at s a) (sym h.1) (k a) e refl

  spaced_miss : (k : ℕ → ℕ → Rows) → x ≡ None → (gap s at and λ a. string s a and k a) ≡ Miss
  unfolding gap string
  spaced_miss k q = not_both s (gap_at s at) k (sym p ∙ q)

  module _ (a e : ℕ) (q : x ≡ Some (a, e)) where
    pub spaced_ahead : a < e
    spaced_ahead = string_ahead s a e (both_read s (gap_at s at) a e (sym p ∙ q)).1

    pub spaced_ends : e ≤ length s
    spaced_ends = string_ends s a e (both_read s (gap_at s at) a e (sym p ∙ q)).1

    pub spaced_fits : length s < 2 ^ 64 → Fits w64 (a + 1)
    spaced_fits l = record { fits = omega (arith, spaced_ahead, spaced_ends) }

    pub spaced_takes : 1 ≤ e
    spaced_takes = omega (arith, spaced_ahead)

    pub spaced_within : a < length s
    spaced_within = omega (arith, spaced_ahead, spaced_ends)

-- ---- after a first string from a to e: x is the second's answer

module _ (base : ℕ) (o : Out) (t : List ℕ) (s : List ℕ) (a e : ℕ) (x : Option (ℕ × ℕ)) (p : x ≡ gap_string s e) where
  pub second_two : (b f : ℕ) (m n : Out) (v u : List ℕ) → x ≡ Some (b, f)
      → m ≡ noted o (span 21 (a + 1) (e - 1)) → v ≡ pour_at o.rows (laid base (span 21 (a + 1) (e - 1)) ∷ []) t
      → n ≡ noted m (span 22 (b + 1) (f - 1)) → u ≡ pour_at m.rows (laid base (span 22 (b + 1) (f - 1)) ∷ []) v → Did base (second_text s a e) o t u (Ok (f, n))
  unfolding second_text ◌else◌
  second_two b f m n v u q hm hv hn hu =
      let C = span 21 (a + 1) (e - 1) in
      let D : ℕ → ℕ → Detail = λ b f. span 22 (b + 1) (f - 1) in
      did_read base o t (second_text s a e) f (C ∷ D b f ∷ []) n u
      (ap (λ (z : Rows). z else To e (span 22 (a + 1) (e - 1) ∷ [])) (spaced_to s e x p (λ b f. To f (C ∷ D b f ∷ [])) b f q))
      (wrote_then base o t (C ∷ []) (D b f ∷ []) m n v u (wrote_one base o t C m v hm hv) (wrote_one base m v (D b f) n u hn hu))

  pub second_one : (m : Out) (u : List ℕ) → x ≡ None → m ≡ noted o (span 22 (a + 1) (e - 1)) → u ≡ pour_at o.rows (laid base (span 22 (a + 1) (e - 1)) ∷ []) t
      → Did base (second_text s a e) o t u (Ok (e, m))
  unfolding second_text ◌else◌
  second_one m u q hm hu =
      let D = span 22 (a + 1) (e - 1) in
      did_read base o t (second_text s a e) e (D ∷ []) m u
      (ap (λ (z : Rows). z else To e (D ∷ [])) (spaced_miss s e x p (λ b f. To f (span 21 (a + 1) (e - 1) ∷ span 22 (b + 1) (f - 1) ∷ [])) q))
      (wrote_one base o t D m u hm hu)

pub ruleset second_laws = (spaced_fits, spaced_takes, second_two, second_one, noted_room)

-- ---- the strings: x is the first's answer

sure_second : (s : List ℕ) (a e : ℕ) → Sure (second_text s a e)
unfolding second_text
sure_second s a e = sure_else _ _ sure_to

module _ (base : ℕ) (o : Out) (t : List ℕ) (s : List ℕ) (at : ℕ) (x : Option (ℕ × ℕ)) (p : x ≡ gap_string s at) where
  pub texts_on : (a e : ℕ) (u : List ℕ) (r : Reading Out) → x ≡ Some (a, e) → Did base (second_text s a e) o t u r → Did base (texts_of s at) o t u r
  unfolding texts_of texts second_text
  texts_on a e u r q d =
      subst (λ (z : Rows). Did base (maybe at z) o t u r) (sym (spaced_to s at x p (second_text s) a e q)) (maybe_sure base o t u r at (sure_second s a e) d)

  pub texts_none : x ≡ None → Did base (texts_of s at) o t t (Ok (at, o))
  unfolding texts_of texts second_text maybe
  texts_none q = did_read base o t (texts_of s at) at [] o t (ap (maybe at) (spaced_miss s at x p (second_text s) q)) (wrote_none base o t)

pub ruleset texts_laws = (spaced_takes, spaced_within, texts_on, texts_none)
