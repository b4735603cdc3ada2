-- Option, include, pushtag and poptag, renewed.
use Rattle.std.specs.Prelude.{Some}
use Prim.Native.Nat.{ℕ, ◌+◌, ◌<◌}
use Prim.Native.String.{String}
use native.Mathlib.Omega.{arith}
use mathlib.Core.Path.{◌≡◌, refl, sym, ◌∙◌, ap, ap₂, subst}
use mathlib.Core.Bool.{true, false}
use mathlib.Core.List.{List, [], ◌∷◌, ◌++◌, append_assoc, append-nil}
use lib.Dec.{eqb, ltb}
use lib.ListN.{length, get_or, drop, length-append}
use Rattle.text.specs.Answer.{◌and◌, ◌else◌, To, Miss, ◌then◌}
use Rattle.text.specs.Leaves.{word, gap, hard_gap, token, date, dated, tag}
use Rattle.text.specs.Bytes.{bytes, is_small, is_digit, is_capital, in_tag}
use Rattle.text.specs.Run.{run_to}
use Rattle.text.specs.Dates.{like_shape, date_shape, date_at, as_shape}
use Rattle.text.specs.Words.{starts_with}
use Rattle.text.specs.Tags.{marked_at}
use Rattle.text.proofs.Ats.{At, at_next, at_one, at_start_lem}
use Rattle.text.proofs.Inversions.{and_inv, must_inv, token_inv, to_inv}
use Rattle.text.proofs.TestLaws.{absurd_bool}
use Rattle.text.proofs.TokenEnds.{word_reach}
use Rattle.text.specs.Every.{Every}
use Rattle.amount.specs.Details.{span, Rows, quoted}
use Rattle.text.specs.Refusals.{missing, missing_gap}
use Rattle.amount.specs.declared.detail.Detail.{Detail}
use Rattle.content.specs.Contents.{hard_string}
use Rattle.entry.specs.Forms.{blank, directive, Form as Entry, as_entry, form_of}
use Rattle.entry.specs.Directive.{option, include, tagged}
use Rattle.layout.specs.Written.{head_text, closing, kind_of, no_item, printed, quotes, detail_text}
use Rattle.layout.specs.Meaning.{Item, texted}
use Rattle.layout.proofs.Texts.{at_split, Tidy}
use Rattle.layout.proofs.Numbers.{All}
use Rattle.layout.proofs.Values.{shown, run_past}
use Rattle.layout.proofs.Tokens.{read_if, marked_taken, marked_again, read_to}
use Rattle.layout.proofs.Neats.{Phrase, Neat, neat_all, neat_join, neat_cons, neat_space, neat_quotes, neat_none, free_feed, free_tag, free_range}
use Rattle.layout.proofs.Readings.{items, items_append, Fine, text_item, Reads, must_reads, skip_reads, and_reads, token_reads}
use Rattle.layout.proofs.Marks.{reached, word_reads, line_reads, gap_reads}
use Rattle.layout.proofs.Parts.{IsText, quoted_was, quoted_is, hard_gap_was, hard_gap_is, gap_was, text_row_lem, one_span, tag_kind_lem}
use Rattle.layout.proofs.Bodies.{print_detail, print_string, quote_blank, string_kind_lem, hard_string_was, hard_string_is, print_end, print_entry}
use Rattle.layout.proofs.Metas.{line_empty}
use Rattle.layout.proofs.Choices.{Made, made_second, Choice, First, choice_small, lettered_first, lettered_neat, tried, tried_is, first_of, later, lettered, small_all}
use Rattle.layout.proofs.Directives.{word_empty}
use Rattle.layout.proofs.Compose.{Boundary, Renewed, Renewal, own_item, renewal}
use Rattle.layout.proofs.Fronts.{sharp_small, sharp_boundary, small_tag, small_digit}

-- ---- no date, and a word in front

unlike : (t : List ℕ) → is_digit (get_or t 0 0) ≡ false → like_shape date_shape t ≡ false
unfolding like_shape as_shape
unlike [] e = refl
unlike (b ∷ t) e = rw e

pub date_misses : {s : List ℕ} {i : ℕ} {t : List ℕ} → is_digit (get_or t 0 0) ≡ false → At s i t → date s i ≡ Miss
unfolding date date_at dated
date_misses {s} {i} {t} e A = rw (A.here, unlike t e)

directive_misses : {s : List ℕ} {t : List ℕ} → is_digit (get_or t 0 0) ≡ false → At s 0 t → directive s ≡ Miss
unfolding directive ◌then◌
directive_misses e A = rw (date_misses e A)

-- ---- the words

pub option_leads : (s : List ℕ) (i : ℕ) → (g : ℕ → Rows) × (option s i ≡ (word (bytes "option") s i and g))
unfolding option
option_leads s i = (_, refl)

pub include_leads : (s : List ℕ) (i : ℕ) → (g : ℕ → Rows) × (include s i ≡ (word (bytes "include") s i and g))
unfolding include
include_leads s i = (_, refl)

pub tagged_leads : (w : String) (s : List ℕ) (i : ℕ) → (g : ℕ → Rows) × (tagged w s i ≡ (word (bytes w) s i and g))
unfolding tagged
tagged_leads w s i = (_, refl)

abbrev pub option_word : Choice
option_word = record { kind = 2; name = "option"; reads = option; leads = option_leads }

abbrev pub include_word : Choice
include_word = record { kind = 3; name = "include"; reads = include; leads = include_leads }

abbrev pub tag_word : ℕ → String → Choice
tag_word k w = record { kind = k; name = w; reads = tagged w; leads = tagged_leads w }

unfoldable pub wordings : List Choice
wordings = option_word ∷ include_word ∷ tag_word 4 "pushtag" ∷ tag_word 5 "poptag" ∷ []

pub form_tried : (s : List ℕ) → form_of s ≡ (directive s else tried 0 s 0 wordings (blank s))
unfolding form_of tried wordings
form_tried s = refl

-- what is to be known of each
record Wording (c : Choice) : Type 0 where
  low : ltb c.kind 20 ≡ true
  no_text : texted c.kind ≡ false
  head : (next : ℕ) → head_text (own_item c.kind 0) next ≡ bytes c.name
  small : lettered (bytes c.name) ≡ true
  first : (t : List ℕ) → First (bytes c.name ++ (32 ∷ t)) c wordings

words : Every Wording wordings
unfolding texted head_text bytes lettered small_all is_small starts_with wordings
words = (
  record { low = refl; no_text = refl; head = λ next. refl; small = refl; first = λ t. first_of },
  (
    record { low = refl; no_text = refl; head = λ next. refl; small = refl; first = λ t. later refl first_of },
    (
      record { low = refl; no_text = refl; head = λ next. refl; small = refl; first = λ t. later refl (later refl first_of) },
      (record { low = refl; no_text = refl; head = λ next. refl; small = refl; first = λ t. later refl (later refl (later refl first_of)) }, tt),
    ),
  ),
)

-- what is written behind the word and a space, of an entry that ends at n
record Spelt (s : List ℕ) (n : ℕ) (c : Choice) (ks : List Item) : Type 0 where
  tail : List ℕ
  neat : Neat tail
  prints : (ds : List Item) → ltb (kind_of ds) 20 ≡ true → printed c.kind (own_item c.kind 0) (ks ++ ds) ≡ 32 ∷ (tail ++ printed 0 no_item ds)
  reads : (u v : List ℕ) → Boundary (drop n s) v → At u 0 (bytes c.name ++ (32 ∷ (tail ++ v))) → Reads u (c.reads u 0) ks v

module _ (s : List ℕ) (n : ℕ) (c : Choice) (W : Wording c) (ks : List Item) (S : Spelt s n c ks) (was : is_small (get_or s 0 0) ≡ true) where
  text : List ℕ
  text = bytes c.name ++ (32 ∷ S.tail)

  text_some : 0 < length text
  unfolding text
  text_some = omega (arith, length-append (bytes c.name) (32 ∷ S.tail))

  text_is : (v : List ℕ) → text ++ v ≡ bytes c.name ++ (32 ∷ (S.tail ++ v))
  unfolding text
  text_is v = append_assoc (bytes c.name) (32 ∷ S.tail) v

  text_first : (v : List ℕ) → is_small (get_or (text ++ v) 0 0) ≡ true
  text_first v = rw (text_is v) (lettered_first (bytes c.name) (32 ∷ (S.tail ++ v)) W.small)

  text_neat : Neat text
  unfolding text
  text_neat = neat_join (bytes c.name) _ (lettered_neat (bytes c.name) W.small) (neat_space _ S.neat)

  reads_again : (v : List ℕ) → Boundary (drop n s) v → Made (text ++ v) (form_of (text ++ v)) c.kind 0 ks v
  reads_again v B =
      let u = text ++ v in
      let A : At u 0 (bytes c.name ++ (32 ∷ (S.tail ++ v))) = subst (At u 0) (text_is v) (at_start_lem u) in
      subst (λ z. Made u z c.kind 0 ks v) (sym (form_tried u))
      (made_second (directive_misses (small_digit _ (text_first v)) (at_start_lem u)) (tried_is (blank u) 0 (W.first _) A (S.reads u v B A)))

  word_renewed : Renewed s (own_item c.kind 0) ks (drop n s)
  word_renewed = record {
    text = text;
    some = text_some;
    own = rw W.no_text;
    prints = λ j prev ds e.
        print_entry j prev (own_item c.kind 0) (ks ++ ds) W.low
        ∙ ap (λ z. closing j ++ z) (ap₂ (λ x y. x ++ y) (W.head (kind_of (ks ++ ds))) (S.prints ds e) ∙ sym (text_is (printed 0 no_item ds)));
    reads = reads_again;
    front = λ v B. sharp_boundary s (text ++ v) (sharp_small _ (text_first v)) (λ h. absurd_bool (sym h ∙ small_tag (get_or s 0 0) was));
    tidy = text_neat.before;
  }

-- ---- option and include

option_is : {s : List ℕ} {i : ℕ} (a b v : List ℕ) → Phrase a → Phrase b → At s i (bytes "option" ++ (32 ∷ (quotes a ++ (32 ∷ (quotes b ++ (10 ∷ v))))))
    → Reads s (option s i) (text_item 34 a ∷ text_item 34 b ∷ []) v
unfolding option
option_is {s} {i} a b v C D A =
    skip_reads (word_reads (bytes "option") _ A) (λ e E.
    skip_reads (gap_reads (quote_blank a _) E) (λ g G.
    and_reads (text_item 34 a ∷ []) (text_item 34 b ∷ []) (quoted_is 34 string_kind_lem a _ C G) (λ h H.
    skip_reads (gap_reads (quote_blank b _) H) (λ j J.
    and_reads (text_item 34 b ∷ []) [] (quoted_is 34 string_kind_lem b _ D J) (λ l L. line_reads L)))))

include_is : {s : List ℕ} {i : ℕ} (a v : List ℕ) → Phrase a → At s i (bytes "include" ++ (32 ∷ (quotes a ++ (10 ∷ v)))) → Reads s (include s i) (text_item 34 a ∷ []) v
unfolding include
include_is {s} {i} a v C A =
    skip_reads (word_reads (bytes "include") _ A) (λ e E.
    skip_reads (hard_gap_is missing_gap (quote_blank a _) E) (λ g G.
    and_reads (text_item 34 a ∷ []) [] (hard_string_is s g a (10 ∷ v) C G) (λ l L. must_reads missing l (line_reads L))))

option_was : (s : List ℕ) (i j : ℕ) (t : List ℕ) (rs : List Detail) → Tidy s → At s i t → option s i ≡ To j rs
    → (a : List ℕ) × (b : List ℕ) × Phrase a × Phrase b × (items s rs ≡ text_item 34 a ∷ text_item 34 b ∷ [])
unfolding option
option_was s i j t rs T A h =
    let a = and_inv (word (bytes "option") s i) _ j rs h in
    let B = reached {s = s} (word_reach s i (omega (arith, A.fits)) (bytes "option")) a.3 in
    let b = and_inv (gap s a.0) _ j a.2 a.4 in
    let G = gap_was B b.3 in
    let c = and_inv (quoted (span 34) s b.0) _ j b.2 b.4 in
    let C = quoted_was 34 string_kind_lem T G.1 c.3 in
    let d = and_inv (gap s c.0) _ j c.2 c.4 in
    let E = gap_was C.place d.3 in
    let e = and_inv (quoted (span 34) s d.0) _ j d.2 d.4 in
    let F = quoted_was 34 string_kind_lem T E.1 e.3 in
    let p : rs ≡ c.1 ++ e.1 =
    a.5 ∙ ap (λ z. z ++ a.2) (word_empty (bytes "option") s i a.0 a.1 a.3) ∙ b.5 ∙ ap (λ z. z ++ b.2) G.0 ∙ c.5
    ∙ ap (λ z. c.1 ++ z) (d.5 ∙ ap (λ z. z ++ d.2) E.0 ∙ e.5 ∙ ap (λ z. e.1 ++ z) (line_empty s e.0 j e.2 e.4) ∙ append-nil e.1) in
    (C.is.0, F.is.0, C.is.1, F.is.1, ap (items s) p ∙ items_append s c.1 e.1 ∙ ap₂ (λ x y. x ++ y) C.is.2 F.is.2)

include_was : (s : List ℕ) (i j : ℕ) (t : List ℕ) (rs : List Detail) → Tidy s → At s i t → include s i ≡ To j rs → Every Fine rs → IsText Phrase 34 (items s rs)
unfolding include
include_was s i j t rs T A h f =
    let a = and_inv (word (bytes "include") s i) _ j rs h in
    let B = reached {s = s} (word_reach s i (omega (arith, A.fits)) (bytes "include")) a.3 in
    let b = and_inv (hard_gap missing_gap s a.0) _ j a.2 a.4 in
    let G = hard_gap_was missing_gap B b.3 in
    let c = and_inv (hard_string s b.0) _ j b.2 b.4 in
    let p : rs ≡ c.1 =
    a.5 ∙ ap (λ z. z ++ a.2) (word_empty (bytes "include") s i a.0 a.1 a.3) ∙ b.5 ∙ ap (λ z. z ++ b.2) G.0 ∙ c.5
    ∙ ap (λ z. c.1 ++ z) (line_empty s c.0 j c.2 (must_inv missing c.0 _ j c.2 c.4)) ∙ append-nil c.1 in
    let C = hard_string_was s b.0 c.0 _ c.1 T G.1 c.3 (subst (Every Fine) p f) in
    subst (λ z. IsText Phrase 34 (items s z)) (sym p) C.is

module _ (s : List ℕ) (n : ℕ) where
  option_spelt : (a b : List ℕ) → Phrase a → Phrase b → Spelt s n option_word (text_item 34 a ∷ text_item 34 b ∷ [])
  unfolding closing
  option_spelt a b C D = record {
    tail = quotes a ++ (32 ∷ (quotes b ++ (10 ∷ [])));
    neat = neat_join (quotes a) _ (neat_quotes a C.neat) (neat_space _ (neat_join (quotes b) _ (neat_quotes b D.neat) (neat_cons 10 _ free_feed neat_none)));
    prints = λ ds e.
        print_string 2 (own_item 2 0) (text_item 34 b ∷ ds) a
        ∙ ap (λ z. 32 ∷ (quotes a ++ z)) (print_string 2 (text_item 34 a) ds b ∙ ap (λ z. 32 ∷ (quotes b ++ z)) (print_end 2 (text_item 34 b) ds e))
        ∙ ap (λ z. 32 ∷ z) (sym (flat (printed 0 no_item ds)));
    reads = λ u v B A. option_is a b v C D (subst (λ z. At u 0 (bytes "option" ++ (32 ∷ z))) (flat v) A);
  }
    where
      flat : (v : List ℕ) → (quotes a ++ (32 ∷ (quotes b ++ (10 ∷ [])))) ++ v ≡ quotes a ++ (32 ∷ (quotes b ++ (10 ∷ v)))
      flat v = append_assoc (quotes a) _ v ∙ ap (λ z. quotes a ++ (32 ∷ z)) (append_assoc (quotes b) (10 ∷ []) v)

  include_spelt : (a : List ℕ) → Phrase a → Spelt s n include_word (text_item 34 a ∷ [])
  unfolding closing
  include_spelt a C = record {
    tail = quotes a ++ (10 ∷ []);
    neat = neat_join (quotes a) _ (neat_quotes a C.neat) (neat_cons 10 _ free_feed neat_none);
    prints = λ ds e.
        print_string 3 (own_item 3 0) ds a ∙ ap (λ z. 32 ∷ (quotes a ++ z)) (print_end 3 (text_item 34 a) ds e) ∙ ap (λ z. 32 ∷ z) (sym (append_assoc (quotes a) (10 ∷ []) (printed 0 no_item ds)));
    reads = λ u v B A. include_is a v C (subst (λ z. At u 0 (bytes "include" ++ (32 ∷ z))) (append_assoc (quotes a) (10 ∷ []) v) A);
  }

-- ---- pushtag and poptag

tag_none : in_tag 0 ≡ false
unfolding in_tag is_capital is_small is_digit
tag_none = refl

marked_run : (s : List ℕ) (i j : ℕ) → marked_at 35 in_tag s i ≡ Some j → j ≡ run_to in_tag s (i + 1)
unfolding marked_at
marked_run s i j h = read_to _ j (read_if (eqb (get_or s i 0) 35) _ j h).1

tagged_was : (w : String) (s : List ℕ) (i j : ℕ) (t : List ℕ) (rs : List Detail) → At s i t → tagged w s i ≡ To j rs → IsText (All in_tag) 23 (items s rs) × (in_tag (get_or (drop j s) 0 0) ≡ false)
unfolding tagged tag
tagged_was w s i j t rs A h =
    let a = and_inv (word (bytes w) s i) _ j rs h in
    let B = reached {s = s} (word_reach s i (omega (arith, A.fits)) (bytes w)) a.3 in
    let b = and_inv (gap s a.0) _ j a.2 a.4 in
    let G = gap_was B b.3 in
    let c = and_inv (token {A = Detail} (marked_at 35 in_tag s b.0)) _ j b.2 b.4 in
    let d = token_inv (marked_at 35 in_tag s b.0) c.0 c.1 c.3 in
    let M = marked_taken 35 in_tag (omega arith) G.1 d.0 in
    let e = to_inv c.0 j _ c.2 c.4 in
    let C : At s (b.0 + 1) (M.0 ++ M.1) = at_one (subst (At s b.0) M.2 G.1) in
    let x = at_split M.0 M.1 j C (sym e.0 ∙ M.3) in
    let p : rs ≡ span 23 (b.0 + 1) j ∷ [] =
    a.5 ∙ ap (λ z. z ++ a.2) (word_empty (bytes w) s i a.0 a.1 a.3) ∙ b.5 ∙ ap (λ z. z ++ b.2) G.0 ∙ c.5 ∙ ap (λ z. z ++ c.2) d.1 ∙ e.1
    ∙ ap (λ z. span 23 (b.0 + 1) z ∷ []) e.0 in
    (one_span s (All in_tag) 23 (b.0 + 1) j rs _ tag_kind_lem p refl (subst (All in_tag) (sym x.0) M.4), run_past in_tag tag_none s (b.0 + 1) j (marked_run s b.0 j (d.0 ∙ ap Some e.0)))

tagged_is : {s : List ℕ} {i : ℕ} (w : String) (t v : List ℕ) → All in_tag t → in_tag (get_or v 0 0) ≡ false → At s i (bytes w ++ (32 ∷ 35 ∷ (t ++ v))) → Reads s (tagged w s i) (text_item 23 t ∷ []) v
unfolding tagged tag
tagged_is {s} {i} w t v H o A =
    skip_reads (word_reads (bytes w) _ A) (λ e E.
    skip_reads (gap_reads (shown 35 (omega arith)) E) (λ g G.
    skip_reads (token_reads (marked_again 35 in_tag t v H o G) (at_next t v (at_one G))) (λ j D. text_row_lem 23 (g + 1) j t v tag_kind_lem (at_one G) D)))

tag_neat : (t : List ℕ) → All in_tag t → Neat (35 ∷ t)
tag_neat t H = neat_cons 35 _ (free_range 35 (omega arith) (omega arith)) (neat_all in_tag free_tag t H)

print_tag : (k : ℕ) (prev : Item) (ds : List Item) (t : List ℕ) → printed k prev (text_item 23 t ∷ ds) ≡ 32 ∷ 35 ∷ (t ++ printed k (text_item 23 t) ds)
unfolding detail_text
print_tag k prev ds t = print_detail k prev (text_item 23 t) ds refl

tag_spelt : (s : List ℕ) (n k : ℕ) (w : String) → closing k ≡ [] → (t : List ℕ) → All in_tag t → in_tag (get_or (drop n s) 0 0) ≡ false → Spelt s n (tag_word k w) (text_item 23 t ∷ [])
tag_spelt s n k w c t H out = record {
  tail = 35 ∷ t;
  neat = tag_neat t H;
  prints = λ ds e. print_tag k (own_item k 0) ds t ∙ ap (λ z. 32 ∷ 35 ∷ (t ++ z)) (print_end k (text_item 23 t) ds e ∙ ap (λ z. z ++ printed 0 no_item ds) c);
  reads = λ u v B A. tagged_is w t v H (B.tag out) A;
}

no_feed : (closing 4 ≡ []) × (closing 5 ≡ [])
unfolding closing
no_feed = (refl, refl)

-- ---- the entry that was read

module _ (s : List ℕ) (n : ℕ) (T : Tidy s) (f : Entry) (fine : Every Fine f.details) where
  from_word : (c : Choice) → Wording c → ((rs : List Detail) → c.reads s 0 ≡ To n rs → Every Fine rs → Spelt s n c (items s rs)) → as_entry c.kind 0 (c.reads s 0) ≡ To n f → Renewal s n f
  from_word c W spelt h = renewal s c.kind 0 n (c.reads s 0) f W.no_text h fine (λ rs e fs. word_renewed s n c W (items s rs) (spelt rs e fs) (choice_small c W.small s n rs e))

  from_tag : (k : ℕ) (w : String) → Wording (tag_word k w) → closing k ≡ [] → as_entry k 0 (tagged w s 0) ≡ To n f → Renewal s n f
  from_tag k w W c = from_word (tag_word k w) W (λ rs e fs.
      let t = tagged_was w s 0 n s rs (at_start_lem s) e in
      subst (Spelt s n (tag_word k w)) (sym t.0.2) (tag_spelt s n k w c t.0.0 t.0.1 t.1))

  pub from_wordings : Every (λ c. as_entry c.kind 0 (c.reads s 0) ≡ To n f → Renewal s n f) wordings
  unfolding wordings
  from_wordings = (
    from_word option_word words.0 (λ rs e fs.
        let t = option_was s 0 n s rs T (at_start_lem s) e in
        subst (Spelt s n option_word) (sym t.4) (option_spelt s n t.0 t.1 t.2 t.3)),
    (
      from_word include_word words.1.0 (λ rs e fs.
          let t = include_was s 0 n s rs T (at_start_lem s) e fs in
          subst (Spelt s n include_word) (sym t.2) (include_spelt s n t.0 t.1)),
      (from_tag 4 "pushtag" words.1.1.0 no_feed.0, (from_tag 5 "poptag" words.1.1.1.0 no_feed.1, tt)),
    ),
  )
