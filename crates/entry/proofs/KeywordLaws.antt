-- The words that entries begin with exclude each other, so an entry is read by the first of them that stands there.
use Rattle.std.specs.Prelude.{None, Option, Some}
use Prim.Native.Nat.{ℕ, ◌+◌, ◌≤◌}
use native.Mathlib.Omega.{arith}
use mathlib.Core.Path.{◌≡◌, refl, sym, ◌∙◌}
use mathlib.Core.Bool.{Bool, true, false, cond, ◌&&◌}
use mathlib.Core.List.{List, [], ◌∷◌}
use borrow.Author.Tests.{eqb-true}
use lib.Dec.{eqb}
use lib.ListN.{length, drop}
use Rattle.text.specs.Bytes.{bytes}
use Rattle.text.specs.Words.{starts_with, word_at}
use Rattle.text.specs.Answer.{Ans, Miss, ◌and◌, ◌else◌}
use Rattle.text.specs.Leaves.{token, word}
use Rattle.text.proofs.TokenEnds.{word_reach}
use Rattle.text.proofs.Joins.{Reach, else_none}
use Rattle.text.proofs.TestLaws.{absurd_bool, and_left, and_right, some_pair}
use Rattle.amount.specs.declared.detail.Detail.{Detail}
use Rattle.amount.specs.Details.{Rows}
use Rattle.entry.specs.Directive.{keyword, option, include, tagged}
use Rattle.entry.specs.Forms.{Form, as_entry}
use Rattle.content.specs.steps.Parts.{content_of}
use Rattle.entry.specs.steps.Formed.{content_end}
use Rattle.entry.specs.steps.Formed.{or_keyword, late_keyword, middle_keyword, keyword_at, gap_content, by_keyword}
use Rattle.entry.specs.steps.Undated.{option_of, include_end, include_of, tag_of, poptag_form, pushtag_form, include_form, option_form}
use Rattle.amount.proofs.OneRows.{token_to, token_miss}

-- ---- words that differ at a place that both have

abbrev clash : List ℕ → List ℕ → Bool
clash [] w = false
clash (a ∷ v) [] = false
clash (a ∷ v) (b ∷ w) = cond (eqb a b) (clash v w) true

-- do not both start a text
clash_start : (v w x : List ℕ) → clash v w ≡ true → starts_with v x ≡ true → starts_with w x ≡ false
unfolding starts_with
clash_start [] w x e h = absurd_bool e
clash_start (a ∷ v) [] x e h = absurd_bool e
clash_start (a ∷ v) (b ∷ w) [] e h = refl
clash_start (a ∷ v) (b ∷ w) (c ∷ x) e h =
    let p : c ≡ a = eqb-true c a (and_left (eqb c a) (starts_with v x) h) in
    go (eqb a b) refl p e (λ k. clash_start v w x k (and_right (eqb c a) (starts_with v x) h))
  where
    go : (t : Bool) → eqb a b ≡ t → c ≡ a → cond t (clash v w) true ≡ true → (clash v w ≡ true → starts_with w x ≡ false) → (eqb c b && starts_with w x) ≡ false
    go true q p e ih = rw (p, q) (ih e)
    go false q p e ih = rw (p, q) refl

clash_word : (v w s : List ℕ) (at e : ℕ) → clash v w ≡ true → word_at v s at ≡ Some e → word_at w s at ≡ None
unfolding word_at
clash_word v w s at e h p = go (starts_with v (drop at s)) refl p
  where
    go : (t : Bool) → starts_with v (drop at s) ≡ t → cond t (Some (at + length v)) None ≡ Some e
        → cond (starts_with w (drop at s)) (Some (at + length w)) None ≡ None
    go true q p = rw (clash_start v w (drop at s) h q)
    go false q p = absurd (let z : ◌≡◌ {A = ℕ} 0 1 = cc in omega arith)

-- ---- kinds of entries with the words that they begin with

abbrev Words : Type 0
Words = List (ℕ × List ℕ)

-- v clashes with all words of a list; all words of a list clash
abbrev apart : List ℕ → Words → Bool
apart v [] = true
apart v ((k, w) ∷ ws) = clash v w && apart v ws

abbrev distinct : Words → Bool
distinct [] = true
distinct ((k, w) ∷ ws) = apart w ws && distinct ws

as_miss : (k d : ℕ) (a : Rows) (b : Ans Form) → a ≡ Miss → (as_entry k d a else b) ≡ b
unfolding as_entry ◌else◌
as_miss k d a b e = rw e

module _ (s : List ℕ) (at : ℕ) where
  -- the first word that stands at a place
  abbrev first_of : Words → Option (ℕ × ℕ)
  first_of [] = None
  first_of ((k, w) ∷ ws) = or_keyword k (word_at w s at) (first_of ws)

  -- the word ends at its start or after it, and within the text
  first_ends : (ws : Words) (k e : ℕ) → at ≤ length s → first_of ws ≡ Some (k, e) → (at ≤ e) × (e ≤ length s)
  unfolding or_keyword word token
  first_ends [] k e l p = absurd (let z : ◌≡◌ {A = ℕ} 0 1 = cc in omega arith)
  first_ends ((m, w) ∷ ws) k e l p = go (word_at w s at) (word_reach s at l w) p (first_ends ws k e l)
    where
      go : (x : Option ℕ) → Reach {A = List Detail} (length s) (at + length w) (token x) → or_keyword m x (first_of ws) ≡ Some (k, e)
          → (first_of ws ≡ Some (k, e) → (at ≤ e) × (e ≤ length s)) → (at ≤ e) × (e ≤ length s)
      go (Some i) r p ih = omega (arith, r.ends, (some_pair p).1)
      go None r p ih = ih p

-- c k e is what an entry of kind k reads from e, where its word ends
module _ (c : ℕ → ℕ → Rows) (d : ℕ) (s : List ℕ) (at : ℕ) where
  -- the forms, each else the next
  abbrev forms_of : Words → Ans Form
  forms_of [] = Miss
  forms_of ((k, w) ∷ ws) = as_entry k d (word w s at and c k) else forms_of ws

  forms_none : (v : List ℕ) (e : ℕ) (ws : Words) → apart v ws ≡ true → word_at v s at ≡ Some e → forms_of ws ≡ Miss
  unfolding word
  forms_none v e [] h p = refl
  forms_none v e ((k, w) ∷ ws) h p =
      as_miss k d (word w s at and c k) (forms_of ws) (token_miss (word_at w s at) (word_at w s at) refl (c k) (clash_word v w s at e (and_left (clash v w) (apart v ws) h) p))
      ∙ forms_none v e ws (and_right (clash v w) (apart v ws) h) p

  forms_read : (k : ℕ) (w : List ℕ) (ws : Words) (e : ℕ) → distinct ((k, w) ∷ ws) ≡ true → word_at w s at ≡ Some e → forms_of ((k, w) ∷ ws) ≡ as_entry k d (c k e)
  unfolding word
  forms_read k w ws e h p =
      rw (token_to (word_at w s at) (word_at w s at) refl (c k) e p, forms_none w e ws (and_left (apart w ws) (distinct ws) h) p) (else_none (as_entry k d (c k e)))

  forms_next : (k : ℕ) (w : List ℕ) (ws : Words) → word_at w s at ≡ None → forms_of ((k, w) ∷ ws) ≡ forms_of ws
  unfolding word
  forms_next k w ws p = as_miss k d (word w s at and c k) (forms_of ws) (token_miss (word_at w s at) (word_at w s at) refl (c k) p)

  forms_on : (ws : Words) (k e : ℕ) → distinct ws ≡ true → first_of s at ws ≡ Some (k, e) → forms_of ws ≡ as_entry k d (c k e)
  unfolding or_keyword
  forms_on [] k e h p = absurd (let z : ◌≡◌ {A = ℕ} 0 1 = cc in omega arith)
  forms_on ((m, w) ∷ ws) k e h p = go (word_at w s at) refl p (forms_on ws k e (and_right (apart w ws) (distinct ws) h))
    where
      go : (x : Option ℕ) → word_at w s at ≡ x → or_keyword m x (first_of s at ws) ≡ Some (k, e) → (first_of s at ws ≡ Some (k, e) → forms_of ws ≡ as_entry k d (c k e))
          → forms_of ((m, w) ∷ ws) ≡ as_entry k d (c k e)
      go (Some i) q p ih =
          let a = some_pair p in
          rw (← a.0, ← a.1) (forms_read m w ws i h q)
      go None q p ih = forms_next m w ws q ∙ ih p

  forms_off : (ws : Words) → first_of s at ws ≡ None → forms_of ws ≡ Miss
  unfolding or_keyword
  forms_off [] p = refl
  forms_off ((m, w) ∷ ws) p = go (word_at w s at) refl p (forms_off ws)
    where
      go : (x : Option ℕ) → word_at w s at ≡ x → or_keyword m x (first_of s at ws) ≡ None → (first_of s at ws ≡ None → forms_of ws ≡ Miss) → forms_of ((m, w) ∷ ws) ≡ Miss
      go (Some i) q p ih = absurd (let z : ◌≡◌ {A = ℕ} 0 1 = cc in omega arith)
      go None q p ih = forms_next m w ws q ∙ ih p

-- ---- the seven keywords, at a place: c is the code's answer

abbrev keywords : Words
keywords =
    (7, bytes "price") ∷ (8, bytes "balance") ∷ (9, bytes "open") ∷ (10, bytes "close") ∷ (11, bytes "pad") ∷ (12, bytes "commodity") ∷ (13, bytes "event") ∷ []

module _ (d : ℕ) (s : List ℕ) (at : ℕ) where
  keyword_forms : by_keyword d s at ≡ forms_of (λ k. gap_content k s) d s at keywords
  unfolding by_keyword keyword gap_content content_end content_of
  keyword_forms = rw (else_none (as_entry 13 d (word (bytes "event") s at and gap_content 13 s)))

  module _ (x : Option (ℕ × ℕ)) (v : x ≡ keyword_at s at) where
    pub keyword_on : (k e : ℕ) → x ≡ Some (k, e) → by_keyword d s at ≡ as_entry k d (gap_content k s e)
    unfolding keyword_at middle_keyword late_keyword bytes
    keyword_on k e h = keyword_forms ∙ forms_on (λ k. gap_content k s) d s at keywords k e refl (sym v ∙ h)

    pub keyword_off : x ≡ None → by_keyword d s at ≡ Miss
    unfolding keyword_at middle_keyword late_keyword
    keyword_off h = keyword_forms ∙ forms_off (λ k. gap_content k s) d s at keywords (sym v ∙ h)

-- what the code needs to read on there
module _ (s : List ℕ) (at : ℕ) (x : Option (ℕ × ℕ)) (k e : ℕ) (v : x ≡ keyword_at s at) (h : x ≡ Some (k, e)) (l : at ≤ length s) where
  pub keyword_within : e ≤ length s
  unfolding keyword_at middle_keyword late_keyword
  keyword_within = (first_ends s at keywords k e l (sym v ∙ h)).1

  pub keyword_room : (n : ℕ) → n ≤ at → n ≤ e
  unfolding keyword_at middle_keyword late_keyword
  keyword_room n g = omega (arith, first_ends s at keywords k e l (sym v ∙ h))

-- ---- option, include, pushtag and poptag, at the start

-- what follows the word of a kind
abbrev after_word : List ℕ → ℕ → ℕ → Rows
after_word s k at = cond (eqb k 2) (option_of s at) (cond (eqb k 3) (include_of s at) (tag_of s at))

abbrev pop_words : Words
pop_words = (5, bytes "poptag") ∷ []

abbrev tag_words : Words
tag_words = (4, bytes "pushtag") ∷ pop_words

abbrev include_words : Words
include_words = (3, bytes "include") ∷ tag_words

abbrev option_words : Words
option_words = (2, bytes "option") ∷ include_words

module _ (s : List ℕ) where
  abbrev word_forms : Words → Ans Form
  word_forms ws = forms_of (after_word s) 0 s 0 ws

  poptag_forms : poptag_form s ≡ word_forms pop_words
  unfolding poptag_form tagged tag_of
  poptag_forms = sym (else_none (as_entry 5 0 (word (bytes "poptag") s 0 and tag_of s)))

  pushtag_forms : pushtag_form s ≡ word_forms tag_words
  unfolding pushtag_form tagged tag_of
  pushtag_forms = rw poptag_forms

  include_forms : include_form s ≡ word_forms include_words
  unfolding include_form include include_of include_end
  include_forms = rw pushtag_forms

  option_forms : option_form s ≡ word_forms option_words
  unfolding option_form option option_of
  option_forms = rw include_forms

  pub poptag_on : (e : ℕ) → word_at (bytes "poptag") s 0 ≡ Some e → poptag_form s ≡ as_entry 5 0 (tag_of s e)
  unfolding bytes
  poptag_on e p = poptag_forms ∙ forms_read (after_word s) 0 s 0 5 (bytes "poptag") [] e refl p

  pub poptag_off : word_at (bytes "poptag") s 0 ≡ None → poptag_form s ≡ Miss
  poptag_off p = poptag_forms ∙ forms_next (after_word s) 0 s 0 5 (bytes "poptag") [] p

  pub pushtag_on : (e : ℕ) → word_at (bytes "pushtag") s 0 ≡ Some e → pushtag_form s ≡ as_entry 4 0 (tag_of s e)
  unfolding bytes
  pushtag_on e p = pushtag_forms ∙ forms_read (after_word s) 0 s 0 4 (bytes "pushtag") pop_words e refl p

  pub pushtag_off : word_at (bytes "pushtag") s 0 ≡ None → pushtag_form s ≡ poptag_form s
  pushtag_off p = pushtag_forms ∙ forms_next (after_word s) 0 s 0 4 (bytes "pushtag") pop_words p ∙ sym poptag_forms

  pub include_on : (e : ℕ) → word_at (bytes "include") s 0 ≡ Some e → include_form s ≡ as_entry 3 0 (include_of s e)
  unfolding bytes
  include_on e p = include_forms ∙ forms_read (after_word s) 0 s 0 3 (bytes "include") tag_words e refl p

  pub include_off : word_at (bytes "include") s 0 ≡ None → include_form s ≡ pushtag_form s
  include_off p = include_forms ∙ forms_next (after_word s) 0 s 0 3 (bytes "include") tag_words p ∙ sym pushtag_forms

  pub option_on : (e : ℕ) → word_at (bytes "option") s 0 ≡ Some e → option_form s ≡ as_entry 2 0 (option_of s e)
  unfolding bytes
  option_on e p = option_forms ∙ forms_read (after_word s) 0 s 0 2 (bytes "option") include_words e refl p

  pub option_off : word_at (bytes "option") s 0 ≡ None → option_form s ≡ include_form s
  option_off p = option_forms ∙ forms_next (after_word s) 0 s 0 2 (bytes "option") include_words p ∙ sym include_forms

-- ---- the keywords as the code has them, byte for byte

abbrev pub price_word : List ℕ
price_word = 112 ∷ 114 ∷ 105 ∷ 99 ∷ 101 ∷ []

abbrev pub balance_word : List ℕ
balance_word = 98 ∷ 97 ∷ 108 ∷ 97 ∷ 110 ∷ 99 ∷ 101 ∷ []

abbrev pub open_word : List ℕ
open_word = 111 ∷ 112 ∷ 101 ∷ 110 ∷ []

abbrev pub close_word : List ℕ
close_word = 99 ∷ 108 ∷ 111 ∷ 115 ∷ 101 ∷ []

abbrev pub pad_word : List ℕ
pad_word = 112 ∷ 97 ∷ 100 ∷ []

abbrev pub commodity_word : List ℕ
commodity_word = 99 ∷ 111 ∷ 109 ∷ 109 ∷ 111 ∷ 100 ∷ 105 ∷ 116 ∷ 121 ∷ []

abbrev pub event_word : List ℕ
event_word = 101 ∷ 118 ∷ 101 ∷ 110 ∷ 116 ∷ []

-- what the code answers, where x, y and z are what it read
module _ (s : List ℕ) (at : ℕ) where
  module _ (x : Option ℕ) (p : x ≡ word_at pad_word s at) where
    pub late_pad : (e : ℕ) → x ≡ Some e → Some (11, e) ≡ late_keyword s at
    unfolding late_keyword or_keyword bytes
    late_pad e h = rw (← p, h)

    module _ (h : x ≡ None) (y : Option ℕ) (q : y ≡ word_at commodity_word s at) where
      pub late_commodity : (e : ℕ) → y ≡ Some e → Some (12, e) ≡ late_keyword s at
      unfolding late_keyword or_keyword bytes
      late_commodity e i = rw (← p, h, ← q, i)

      module _ (i : y ≡ None) (z : Option ℕ) (r : z ≡ word_at event_word s at) where
        pub late_event : (e : ℕ) → z ≡ Some e → Some (13, e) ≡ late_keyword s at
        unfolding late_keyword or_keyword bytes
        late_event e j = rw (← p, h, ← q, i, ← r, j)

        pub late_miss : z ≡ None → None ≡ late_keyword s at
        unfolding late_keyword or_keyword bytes
        late_miss j = rw (← p, h, ← q, i, ← r, j)

  module _ (x : Option ℕ) (p : x ≡ word_at open_word s at) where
    pub middle_open : (e : ℕ) → x ≡ Some e → Some (9, e) ≡ middle_keyword s at
    unfolding middle_keyword or_keyword bytes
    middle_open e h = rw (← p, h)

    module _ (h : x ≡ None) (y : Option ℕ) (q : y ≡ word_at close_word s at) where
      pub middle_close : (e : ℕ) → y ≡ Some e → Some (10, e) ≡ middle_keyword s at
      unfolding middle_keyword or_keyword bytes
      middle_close e i = rw (← p, h, ← q, i)

      pub middle_late : (r : Option (ℕ × ℕ)) → y ≡ None → r ≡ late_keyword s at → r ≡ middle_keyword s at
      unfolding middle_keyword or_keyword bytes
      middle_late r i j = rw (← p, h, ← q, i) j

  module _ (x : Option ℕ) (p : x ≡ word_at price_word s at) where
    pub keyword_price : (e : ℕ) → x ≡ Some e → Some (7, e) ≡ keyword_at s at
    unfolding keyword_at or_keyword bytes
    keyword_price e h = rw (← p, h)

    module _ (h : x ≡ None) (y : Option ℕ) (q : y ≡ word_at balance_word s at) where
      pub keyword_balance : (e : ℕ) → y ≡ Some e → Some (8, e) ≡ keyword_at s at
      unfolding keyword_at or_keyword bytes
      keyword_balance e i = rw (← p, h, ← q, i)

      pub keyword_middle : (r : Option (ℕ × ℕ)) → y ≡ None → r ≡ middle_keyword s at → r ≡ keyword_at s at
      unfolding keyword_at or_keyword bytes
      keyword_middle r i j = rw (← p, h, ← q, i) j

pub ruleset late_laws = (late_pad, late_commodity, late_event, late_miss)

pub ruleset middle_laws = (middle_open, middle_close, middle_late)

pub ruleset keyword_laws = (keyword_price, keyword_balance, keyword_middle)
