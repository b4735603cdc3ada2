-- Options, includes, tags and lines: what the code did, each from what it knows where it answers.
use Rattle.text.proofs.TestLaws.{ok_pair, tried}
use Rattle.entry.specs.declared.directive.Formed.{Formed}
use Rattle.text.specs.steps.Told.{Reading}
use Rattle.text.specs.declared.stop.Stop.{Stop}
use Rattle.text.specs.declared.stop.Cause.{Cause}
use Rattle.std.specs.Prelude.{None, Option, Some, Err, Ok}
use Prim.Native.Nat.{ℕ, ◌+◌, ◌-◌, ◌^◌, ◌≤◌, ◌<◌}
use native.Mathlib.Omega.{arith}
use mathlib.Core.Path.{◌≡◌, refl, sym, ◌∙◌, subst}
use mathlib.Core.Bool.{Bool, true, false, cond}
use mathlib.Core.List.{List, [], ◌∷◌}
use borrow.Author.Tests.{not-false}
use mir.Syntax.{w64}
use mir.Val.{Fits}
use lib.Dec.{eqb}
use lib.ListN.{length, get_or}
use Rattle.text.specs.Bytes.{bytes, in_line}
use Rattle.text.specs.Run.{run_to}
use Rattle.text.specs.Words.{word_at}
use Rattle.text.specs.Lines.{gap_at, line_end_at}
use Rattle.text.specs.Strings.{string_at}
use Rattle.text.specs.Tags.{tag_at}
use Rattle.text.specs.Answer.{Ans, To, Miss, Hard, more, ◌and◌, ◌else◌, must}
use Rattle.text.specs.Leaves.{token, gap, hard_gap, line_end, string, tag}
use Rattle.text.proofs.Steps.{get_d_past, run_out}
use Rattle.text.proofs.Joins.{Reach}
use Rattle.text.proofs.StringSame.{string_ahead, string_ends}
use Rattle.text.proofs.TokenEnds.{tag_reach}
use Rattle.text.specs.Refusals.{missing, missing_gap}
use Rattle.amount.specs.declared.detail.Detail.{Detail}
use Rattle.amount.specs.Details.{Rows, span, quoted}
use Rattle.amount.specs.steps.Answers.{one_of}
use Rattle.row.specs.declared.writer.Out.{Out}
use Rattle.row.specs.steps.Pouring.{pour_at}
use Rattle.row.specs.steps.Writing.{laid, noted, outs, Did}
use Rattle.row.proofs.OutLaws.{wrote_one, wrote_then, poured_none, noted_room}
use Rattle.row.proofs.DidLaws.{did_read, did_emit, and_read, and_stop}
use Rattle.row.proofs.TokenLaws.{token_read, token_miss, must_token_read, must_token_miss, must_token_end, must_token_end_miss}
use Rattle.content.specs.Contents.{hard_string}
use Rattle.entry.specs.Directive.{option, include, tagged}
use Rattle.entry.specs.Forms.{Form, as_entry, directive, blank, form_of}
use Rattle.entry.specs.steps.Formed.{formed_of, DidForm}
use Rattle.entry.specs.steps.Undated.{gap_quoted, option_end, option_of, include_end, include_of, tag_of, blank_formed, poptag_form, pushtag_form, include_form, option_form, undated}
use Rattle.amount.proofs.OneRows.{more_none, token_to, token_miss as token-off}
use Rattle.entry.proofs.KeywordLaws.{poptag_on, poptag_off, pushtag_on, pushtag_off, include_on, include_off, option_on, option_off}
use Rattle.entry.proofs.FormLaws.{form_as, else_kept, else_next, else_hard}

-- ---- gap and string: g and x are what the code read

module _ (s : List ℕ) (at : ℕ) (g : Option ℕ) (v : g ≡ gap_at s at) where
  pub quoted_none : g ≡ None → (Err Stop.Miss) ≡ one_of (gap_quoted s at)
  unfolding gap_quoted gap one_of
  quoted_none h = rw (token-off g (gap_at s at) v (quoted (span 34) s) h)

  module _ (j : ℕ) (h : g ≡ Some j) (x : Option ℕ) (w : x ≡ string_at s j) where
    pub quoted_read : (e : ℕ) (d : Detail) → x ≡ Some e → d ≡ span 34 (j + 1) (e - 1) → Ok (e, d) ≡ one_of (gap_quoted s at)
    unfolding gap_quoted gap quoted string one_of
    quoted_read e d i q =
        rw (token_to g (gap_at s at) v (quoted (span 34) s) j h, token_to x (string_at s j) w (λ e. To e (span 34 (j + 1) (e - 1) ∷ [])) e i, q)

    pub quoted_miss : x ≡ None → (Err Stop.Miss) ≡ one_of (gap_quoted s at)
    unfolding gap_quoted gap quoted string one_of
    quoted_miss i =
        rw (token_to g (gap_at s at) v (quoted (span 34) s) j h, token-off x (string_at s j) w (λ e. To e (span 34 (j + 1) (e - 1) ∷ [])) i)

-- a string has its quotes
module _ (s : List ℕ) (j e : ℕ) (x : Option ℕ) (w : x ≡ string_at s j) (i : x ≡ Some e) where
  pub quoted_fits : length s < 2 ^ 64 → Fits w64 (j + 1)
  quoted_fits l = record { fits = omega (arith, string_ahead s j e (sym w ∙ i), string_ends s j e (sym w ∙ i)) }

  pub quoted_takes : 1 ≤ e
  quoted_takes = omega (arith, string_ahead s j e (sym w ∙ i))

pub ruleset quoted_laws = (tried, quoted_none, quoted_read, quoted_miss, quoted_fits, quoted_takes)

-- the code's answer b to them, before what f reads
module _ (s : List ℕ) (at : ℕ) (f : ℕ → Rows) (b : Reading Detail) (v : b ≡ one_of (gap_quoted s at)) where
  abbrev joined : Rows
  joined = gap s at and λ j. quoted (span 34) s j and f

  quoted_cases : (P : Reading Detail → Rows → Type 0) → P (Err Stop.Miss) Miss → ((e : ℕ) (y : Detail) → P (Ok (e, y)) (more (y ∷ []) (f e))) → P b joined
  unfolding gap_quoted gap quoted string token ◌and◌ more one_of
  quoted_cases P miss read = rw v (on_gap (gap_at s at) refl)
    where
      on_string : (j : ℕ) → gap_at s at ≡ Some j → (x : Option ℕ) → string_at s j ≡ x → P (one_of (gap_quoted s at)) joined
      on_string j p (Some e) q = let y = span 34 (j + 1) (e - 1) in rw (p, q, more_none (more (y ∷ []) (f e))) (read e y)
      on_string j p None q = rw (p, q) miss

      on_gap : (x : Option ℕ) → gap_at s at ≡ x → P (one_of (gap_quoted s at)) joined
      on_gap (Some j) p = on_string j p (string_at s j) refl
      on_gap None p = rw p miss

  quoted_and : (e : ℕ) (y : Detail) → b ≡ Ok (e, y) → joined ≡ more (y ∷ []) (f e)
  quoted_and e y =
      quoted_cases (λ c a. c ≡ Ok (e, y) → a ≡ more (y ∷ []) (f e))
      (λ q. absurd (let z : ◌≡◌ {A = ℕ} 0 1 = cc in omega arith))
      (λ i d q. let z = ok_pair q in rw (z.0, z.1))

  quoted_off : b ≡ (Err Stop.Miss) → joined ≡ Miss
  quoted_off =
      quoted_cases (λ c a. c ≡ (Err Stop.Miss) → a ≡ Miss) (λ q. refl) (λ i d q. absurd (let z : ◌≡◌ {A = ℕ} 0 1 = cc in omega arith))

  quoted_never : (k : Cause) (p : ℕ) → b ≡ Err (Stop.Hard k p) → joined ≡ Hard k p
  quoted_never k p =
      quoted_cases (λ c a. c ≡ Err (Stop.Hard k p) → a ≡ Hard k p)
      (λ q. absurd (let z : ◌≡◌ {A = ℕ} 0 1 = cc in omega arith))
      (λ i d q. absurd (let z : ◌≡◌ {A = ℕ} 0 1 = cc in omega arith))

-- ---- an option, from its first string x on

module _ (base : ℕ) (x : Detail) (s : List ℕ) (at : ℕ) (o : Out) (t : List ℕ) (b : Reading Detail) (v : b ≡ one_of (gap_quoted s at)) where
  module _ (e : ℕ) (y : Detail) (h : b ≡ Ok (e, y)) (l : Option ℕ) (w : l ≡ line_end_at s e) where
    pub option_end_lem : (g : ℕ) (m p : Out) (n u : List ℕ) → l ≡ Some g → m ≡ noted o x → n ≡ pour_at o.rows (laid base x ∷ []) t
        → p ≡ noted m y → u ≡ pour_at m.rows (laid base y ∷ []) n → Did base (option_end x s at) o t u (Ok (g, p))
    unfolding option_end line_end token more
    option_end_lem g m p n u i a c d k =
        did_read base o t (option_end x s at) g (x ∷ y ∷ []) p u (rw (quoted_and s at (line_end s) b v e y h, ← w, i))
        (wrote_then base o t (x ∷ []) (y ∷ []) m p n u (wrote_one base o t x m n a c) (wrote_one base m n y p u d k))

    pub option_open : l ≡ None → Did base (option_end x s at) o t t (Err Stop.Miss)
    unfolding option_end line_end token more
    option_open i = rw (quoted_and s at (line_end s) b v e y h, ← w, i) (refl, poured_none o.rows t)

  pub option_end_stop : (stop : Stop) → b ≡ Err stop → Did base (option_end x s at) o t t (Err stop)
  unfolding option_end more
  option_end_stop Stop.Miss h = rw (quoted_off s at (line_end s) b v h) (refl, poured_none o.rows t)
  option_end_stop (Stop.Hard k p) h = rw (quoted_never s at (line_end s) b v k p h) refl

pub ruleset option_end_laws = (tried, noted_room, option_end_lem, option_open, option_end_stop)

-- ---- an option, from after its word on

module _ (base : ℕ) (s : List ℕ) (at : ℕ) (o : Out) (t : List ℕ) (b : Reading Detail) (v : b ≡ one_of (gap_quoted s at)) where
  abbrev rest : ℕ → Rows
  rest c = gap s c and λ d. quoted (span 34) s d and λ e. line_end s e

  pub option_first : (e : ℕ) (y : Detail) (u : List ℕ) (q : Reading Out) → b ≡ Ok (e, y) → Did base (option_end y s e) o t u q → Did base (option_of s at) o t u q
  unfolding option_of option_end
  option_first e y u q h k = rw (quoted_and s at rest b v e y h) k

  pub option_stop : (stop : Stop) → b ≡ Err stop → Did base (option_of s at) o t t (Err stop)
  unfolding option_of
  option_stop Stop.Miss h = rw (quoted_off s at rest b v h) (refl, poured_none o.rows t)
  option_stop (Stop.Hard k p) h = rw (quoted_never s at rest b v k p h) refl

pub ruleset option_laws = (option_first, option_stop)

-- ---- an include: r is what the code answered to its string, l and g what it read

module _ (base : ℕ) (s : List ℕ) (at : ℕ) (o : Out) (t : List ℕ) where
  module _ (v : List ℕ) (r : Reading Out) (w : Did base (hard_string s at) o t v r) where
    abbrev line_left : ℕ → Rows
    line_left e = must missing e (line_end s e)

    pub include_read : (e f : ℕ) (m : Out) (l : Option ℕ) → r ≡ Ok (e, m) → l ≡ line_end_at s e → l ≡ Some f → Did base (include_end s at) o t v (Ok (f, m))
    unfolding include_end line_end
    include_read e f m l h x i =
        and_read base o t v r (hard_string s at) line_left w e m v (Ok (f, m)) h (must_token_end base m v l (line_end_at s e) x missing e f i)

    pub include_open : (e : ℕ) (m : Out) (l : Option ℕ) (u : List ℕ) → r ≡ Ok (e, m) → l ≡ line_end_at s e → l ≡ None → Did base (include_end s at) o t u (Err (Stop.Hard missing e))
    unfolding include_end line_end
    include_open e m l u h x i =
        and_read base o t v r (hard_string s at) line_left w e m u (Err (Stop.Hard missing e)) h (must_token_end_miss base m v l (line_end_at s e) x missing e u i)

    pub include_stop : (stop : Stop) → r ≡ Err stop → Did base (include_end s at) o t v (Err stop)
    unfolding include_end
    include_stop stop h = and_stop base o t v r (hard_string s at) line_left w stop h

  module _ (g : Option ℕ) (w : g ≡ gap_at s at) (u : List ℕ) where
    pub include_gap : (j : ℕ) (q : Reading Out) → g ≡ Some j → Did base (include_end s j) o t u q → Did base (include_of s at) o t u q
    unfolding include_of hard_gap gap
    include_gap j q h k = must_token_read base o t g (gap_at s at) w (include_end s) missing_gap at j u q h k

    pub include_no_gap : g ≡ None → Did base (include_of s at) o t u (Err (Stop.Hard missing_gap at))
    unfolding include_of hard_gap gap
    include_no_gap h = must_token_miss base o t g (gap_at s at) w (include_end s) missing_gap at u h

pub ruleset include_laws = (tried, include_read, include_open, include_stop, include_gap, include_no_gap)

-- ---- a tag, from after its word on: g and x are what the code read

module _ (base : ℕ) (s : List ℕ) (at : ℕ) (o : Out) (t : List ℕ) (g : Option ℕ) (v : g ≡ gap_at s at) where
  abbrev tag_left : ℕ → Rows
  tag_left b = tag s b and λ e. To e (span 23 (b + 1) e ∷ [])

  module _ (j : ℕ) (h : g ≡ Some j) (x : Option ℕ) (w : x ≡ tag_at s j) where
    pub tag_read : (e : ℕ) (d : Detail) (m : Out) (u : List ℕ) → x ≡ Some e → d ≡ span 23 (j + 1) e → m ≡ noted o d → u ≡ pour_at o.rows (laid base d ∷ []) t
        → Did base (tag_of s at) o t u (Ok (e, m))
    unfolding tag_of gap tag
    tag_read e d m u i q a c =
        token_read base o t g (gap_at s at) v tag_left j u (Ok (e, m)) h
        (token_read base o t x (tag_at s j) w (λ e. To e (span 23 (j + 1) e ∷ [])) e u (Ok (e, m)) i (did_emit base o t e (span 23 (j + 1) e) d m u a c q))

    pub tag_miss : x ≡ None → Did base (tag_of s at) o t t (Err Stop.Miss)
    unfolding tag_of gap tag
    tag_miss i =
        token_read base o t g (gap_at s at) v tag_left j t (Err Stop.Miss) h (token_miss base o t x (tag_at s j) w (λ e. To e (span 23 (j + 1) e ∷ [])) i)

  pub tag_none : g ≡ None → Did base (tag_of s at) o t t (Err Stop.Miss)
  unfolding tag_of gap
  tag_none h = token_miss base o t g (gap_at s at) v tag_left h

-- a tag has its mark
pub tag_fits : (s : List ℕ) (j e : ℕ) (x : Option ℕ) → x ≡ tag_at s j → x ≡ Some e → length s < 2 ^ 64 → Fits w64 (j + 1)
unfolding tag token
tag_fits s j e x w i l =
    record { fits = omega (arith, (subst (λ y. Reach {A = List Detail} (length s) (j + 1) (token y)) (sym w ∙ i) (tag_reach s j)).ends) }

pub ruleset tag_laws = (tried, tag_fits, tag_read, tag_miss, tag_none)

-- ---- a line: e is where the code's run ends

module _ (s : List ℕ) (o : Out) (e : ℕ) (v : e ≡ run_to in_line s 0) where
  pub blank_read : e < length s → Ok ((e + 1), record { kind = 1; date = 0; out = o }) ≡ blank_formed s o
  unfolding blank_formed in_line
  blank_read h = rw (← v, not-false (eqb (get_or s e 0) 10) (run_out in_line s 0 e v h))

  pub blank_miss : length s ≤ e → (Err Stop.Miss) ≡ blank_formed s o
  unfolding blank_formed
  blank_miss h = rw (← v, get_d_past s e h)

pub ruleset blank_laws = (blank_read, blank_miss)

-- ---- the words, as the code has them: x is what it read

abbrev pub option_word : List ℕ
option_word = 111 ∷ 112 ∷ 116 ∷ 105 ∷ 111 ∷ 110 ∷ []

abbrev pub include_word : List ℕ
include_word = 105 ∷ 110 ∷ 99 ∷ 108 ∷ 117 ∷ 100 ∷ 101 ∷ []

abbrev pub pushtag_word : List ℕ
pushtag_word = 112 ∷ 117 ∷ 115 ∷ 104 ∷ 116 ∷ 97 ∷ 103 ∷ []

abbrev pub poptag_word : List ℕ
poptag_word = 112 ∷ 111 ∷ 112 ∷ 116 ∷ 97 ∷ 103 ∷ []

module _ (base : ℕ) (s : List ℕ) (o : Out) (t u : List ℕ) (x : Option ℕ) where
  module _ (v : x ≡ word_at option_word s 0) where
    pub option_word_lem : (e : ℕ) (r : Reading Out) (f : Reading Formed) → x ≡ Some e → Did base (option_of s e) o t u r → f ≡ formed_of 2 0 r → DidForm base (option_form s) o t u f
    unfolding bytes
    option_word_lem e r f h w q = form_as base o t u (option_form s) 2 0 (option_of s e) r f (option_on s e (sym v ∙ h)) w q

    pub option_next : (f : Reading Formed) → x ≡ None → DidForm base (include_form s) o t u f → DidForm base (option_form s) o t u f
    unfolding bytes
    option_next f h k = rw (option_off s (sym v ∙ h)) k

  module _ (v : x ≡ word_at include_word s 0) where
    pub include_word_lem : (e : ℕ) (r : Reading Out) (f : Reading Formed) → x ≡ Some e → Did base (include_of s e) o t u r → f ≡ formed_of 3 0 r → DidForm base (include_form s) o t u f
    unfolding bytes
    include_word_lem e r f h w q = form_as base o t u (include_form s) 3 0 (include_of s e) r f (include_on s e (sym v ∙ h)) w q

    pub include_next : (f : Reading Formed) → x ≡ None → DidForm base (pushtag_form s) o t u f → DidForm base (include_form s) o t u f
    unfolding bytes
    include_next f h k = rw (include_off s (sym v ∙ h)) k

  module _ (v : x ≡ word_at pushtag_word s 0) where
    pub pushtag_word_lem : (e : ℕ) (r : Reading Out) (f : Reading Formed) → x ≡ Some e → Did base (tag_of s e) o t u r → f ≡ formed_of 4 0 r → DidForm base (pushtag_form s) o t u f
    unfolding bytes
    pushtag_word_lem e r f h w q = form_as base o t u (pushtag_form s) 4 0 (tag_of s e) r f (pushtag_on s e (sym v ∙ h)) w q

    pub pushtag_next : (f : Reading Formed) → x ≡ None → DidForm base (poptag_form s) o t u f → DidForm base (pushtag_form s) o t u f
    unfolding bytes
    pushtag_next f h k = rw (pushtag_off s (sym v ∙ h)) k

  module _ (v : x ≡ word_at poptag_word s 0) where
    pub poptag_word_lem : (e : ℕ) (r : Reading Out) (f : Reading Formed) → x ≡ Some e → Did base (tag_of s e) o t u r → f ≡ formed_of 5 0 r → DidForm base (poptag_form s) o t u f
    unfolding bytes
    poptag_word_lem e r f h w q = form_as base o t u (poptag_form s) 5 0 (tag_of s e) r f (poptag_on s e (sym v ∙ h)) w q

pub poptag_none : (base : ℕ) (s : List ℕ) (o : Out) (t : List ℕ) (x : Option ℕ) → x ≡ word_at poptag_word s 0 → x ≡ None → DidForm base (poptag_form s) o t t (Err Stop.Miss)
unfolding bytes
poptag_none base s o t x v h = rw (poptag_off s (sym v ∙ h)) (refl, poured_none o.rows t)

pub ruleset word_laws = (tried, option_word_lem, option_next, include_word_lem, include_next, pushtag_word_lem, pushtag_next, poptag_word_lem, poptag_none)

-- ---- these, to which the code answered f, else a line

pub blank_done : (base : ℕ) (s : List ℕ) (o : Out) (t : List ℕ) → DidForm base (blank s) o t t (blank_formed s o)
unfolding blank blank_formed as_entry outs
blank_done base s o t = go (eqb (get_or s (run_to in_line s 0) 0) 10)
  where
    go : (b : Bool) → DidForm base (cond b (as_entry 1 0 (To (run_to in_line s 0 + 1) [])) Miss) o t t (cond b (Ok ((run_to in_line s 0 + 1), record { kind = 1; date = 0; out = o })) (Err Stop.Miss))
    go true = (refl, poured_none o.rows t)
    go false = (refl, poured_none o.rows t)

else_assoc : (a b c : Ans Form) → ((a else b) else c) ≡ (a else (b else c))
unfolding ◌else◌
else_assoc (To j x) b c = refl
else_assoc Miss b c = refl
else_assoc (Hard k p) b c = refl

pub form_else : (s : List ℕ) → form_of s ≡ (directive s else undated s)
unfolding form_of undated option_form include_form pushtag_form poptag_form
form_else s =
    rw (
      else_assoc (as_entry 2 0 (option s 0)) (include_form s) (blank s),
      else_assoc (as_entry 3 0 (include s 0)) (pushtag_form s) (blank s),
      else_assoc (as_entry 4 0 (tagged "pushtag" s 0)) (poptag_form s) (blank s),
    )

module _ (base : ℕ) (s : List ℕ) (o : Out) (t v : List ℕ) (f : Reading Formed) where
  module _ (w : DidForm base (option_form s) o t v f) where
    pub undated_kept : (y : ℕ × Formed) → f ≡ Ok y → DidForm base (undated s) o t v f
    unfolding undated
    undated_kept y h = else_kept base o t v (option_form s) (blank s) f w y h

    pub undated_next : (q : Reading Formed) → f ≡ (Err Stop.Miss) → q ≡ blank_formed s o → DidForm base (undated s) o t v q
    unfolding undated
    undated_next q h e = rw e (else_next base o t v (option_form s) (blank s) f w v (blank_formed s o) h (blank_done base s o v))

    pub undated_hard : (u : List ℕ) (k : Cause) (p : ℕ) → f ≡ Err (Stop.Hard k p) → DidForm base (undated s) o t u (Err (Stop.Hard k p))
    unfolding undated
    undated_hard u k p h = else_hard base o t v (option_form s) (blank s) f w u k p h

  -- ---- a directive, else these

  module _ (w : DidForm base (directive s) o t v f) where
    pub form_kept : (y : ℕ × Formed) → f ≡ Ok y → DidForm base (form_of s) o t v f
    form_kept y h = rw (form_else s) (else_kept base o t v (directive s) (undated s) f w y h)

    pub form_next : (u : List ℕ) (q : Reading Formed) → f ≡ (Err Stop.Miss) → DidForm base (undated s) o v u q → DidForm base (form_of s) o t u q
    form_next u q h k = rw (form_else s) (else_next base o t v (directive s) (undated s) f w u q h k)

    pub form_hard : (u : List ℕ) (k : Cause) (p : ℕ) → f ≡ Err (Stop.Hard k p) → DidForm base (form_of s) o t u (Err (Stop.Hard k p))
    form_hard u k p h = rw (form_else s) (else_hard base o t v (directive s) (undated s) f w u k p h)

pub ruleset undated_laws = (undated_kept, undated_next, undated_hard)

pub ruleset form_laws = (form_kept, form_next, form_hard)
