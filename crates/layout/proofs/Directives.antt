-- Rule 4: a keyword with its content and its metadata, and the entry that it makes.
use Prim.Native.Nat.{ℕ}
use Prim.Native.String.{String}
use mathlib.Core.Path.{◌≡◌, refl, ◌∙◌, ap, subst, sym}
use mathlib.Core.Bool.{false}
use mathlib.Core.List.{List, [], ◌∷◌, ◌++◌}
use lib.ListN.{get_or}
use Rattle.text.specs.Answer.{◌else◌, To, Miss, ◌and◌}
use Rattle.text.specs.Bytes.{is_blank, bytes}
use Rattle.text.specs.Leaves.{hard_gap, word, line_end}
use Rattle.text.specs.Words.{starts_with}
use Rattle.text.proofs.Ats.{At, at_next, at_byte, at_in}
use Rattle.text.proofs.Inversions.{and_inv, token_inv}
use Rattle.text.proofs.TokenEnds.{line_reach, word_reach}
use Rattle.amount.specs.Details.{Rows}
use Rattle.amount.specs.Amounts.{hard_currency, price_of}
use Rattle.amount.specs.declared.detail.Detail.{Detail}
use Rattle.posting.specs.Metadata.{meta_step}
use Rattle.posting.specs.Postings.{flag, is_flag}
use Rattle.content.specs.Contents.{hard_account, pad_of, event_of, balance_of, open_of}
use Rattle.transaction.specs.Transaction.{opening, transaction}
use Rattle.entry.specs.Directive.{keyword}
use Rattle.entry.specs.Forms.{as_entry, dateless, directive, form_of}
use Rattle.layout.specs.Meaning.{Item}
use Rattle.layout.specs.Written.{date_text}
use Rattle.layout.proofs.Texts.{Tidy}
use Rattle.text.proofs.DayLaws.{Day}
use Rattle.text.specs.Every.{Every}
use Rattle.text.proofs.EveryLaws.{every_left, every_right}
use Rattle.text.proofs.Joins.{else_none}
use Rattle.text.specs.Refusals.{missing_gap}
use Rattle.layout.proofs.Days.{date_reads}
use Rattle.layout.proofs.Readings.{items, items_append, Fine, Reads, skip_reads, and_reads, There}
use Rattle.layout.proofs.Marks.{reached, word_reads, word_misses, line_reads}
use Rattle.layout.proofs.Parts.{hard_gap_was, hard_gap_is}
use Rattle.layout.proofs.Bodies.{Again, Anew}
use Rattle.layout.proofs.Metas.{Metas, MetaStop, metas_text, metadata_was, metadata_is, line_empty}
use Rattle.layout.proofs.Choices.{Choice, First, tried, tried_is, made_first, made_second, entry_misses, Made, made_then}

-- ---- a keyword's line

pub record Lined (s : List ℕ) (j : ℕ) (content : List ℕ → ℕ → Rows) (ks : List Item) : Type 0 where
  pub ms : List Item
  pub ns : List Item
  pub again : Again content ms
  pub metas : Metas ns
  pub is : ks ≡ ms ++ ns
  pub stop : meta_step s j ≡ Miss

pub word_empty : (w s : List ℕ) (i j : ℕ) (rs : List Detail) → word w s i ≡ To j rs → rs ≡ []
unfolding word
word_empty w s i j rs h = (token_inv _ j rs h).1

pub keyword_was : (w : String) (content : List ℕ → ℕ → Rows) → Anew content → (s : List ℕ) (i j : ℕ) (t : List ℕ) (rs : List Detail) → Tidy s → At s i t
    → keyword w content s i ≡ To j rs → Every Fine rs
    → There s j rs (Lined s j content)
unfolding keyword
keyword_was w content anew s i j t rs T A h f =
    let a = and_inv (word (bytes w) s i) _ j rs h in
    let B = reached {s = s} (word_reach s i (at_in A) (bytes w)) a.3 in
    let b = and_inv (hard_gap missing_gap s a.0) _ j a.2 a.4 in
    let G = hard_gap_was missing_gap B b.3 in
    let c = and_inv (content s b.0) _ j b.2 b.4 in
    let d = and_inv (line_end s c.0) _ j c.2 c.4 in
    let p : rs ≡ c.1 ++ c.2 = a.5 ∙ ap (λ z. z ++ a.2) (word_empty (bytes w) s i a.0 a.1 a.3) ∙ b.5 ∙ ap (λ z. z ++ b.2) G.0 ∙ c.5 in
    let q : c.2 ≡ d.2 = d.5 ∙ ap (λ z. z ++ d.2) (line_empty s c.0 d.0 d.1 d.3) in
    let g = subst (Every Fine) p f in
    let C = anew s b.0 c.0 _ c.1 T G.1 c.3 (every_left Fine c.1 c.2 g) in
    let L = reached {s = s} (line_reach s c.0 (at_in C.place)) d.3 in
    let M = metadata_was s d.0 j _ d.2 T L d.4 (subst (Every Fine) q (every_right Fine c.1 c.2 g)) in
    record {
      rest = M.0.rest;
      place = M.0.place;
      is = record {
        ms = items s c.1;
        ns = items s d.2;
        again = C.is;
        metas = M.0.is;
        is = ap (items s) (p ∙ ap (λ z. c.1 ++ z) q) ∙ items_append s c.1 d.2;
        stop = M.1;
      };
    }

-- its text
abbrev pub key_line : String → {content : List ℕ → ℕ → Rows} {ms ns : List Item} → Again content ms → Metas ns → List ℕ → List ℕ
key_line w A M post = bytes w ++ (32 ∷ (A.text ++ (10 ∷ metas_text M post)))

keyword_is : {s : List ℕ} {i : ℕ} (w : String) (content : List ℕ → ℕ → Rows) {ms ns : List Item} (A : Again content ms) (M : Metas ns) (post : List ℕ) → MetaStop post
    → At s i (key_line w A M post) → Reads s (keyword w content s i) (ms ++ ns) post
unfolding keyword
keyword_is {s} {i} w content {ms} {ns} A M post stop B =
    skip_reads (word_reads (bytes w) _ B) (λ e E.
    skip_reads (hard_gap_is missing_gap (A.starts (10 ∷ metas_text M post)) E) (λ g G.
    and_reads ms ns (A.reads s g (metas_text M post) G) (λ m D.
    skip_reads (line_reads D) (λ l L. metadata_is M post stop L))))

transaction_misses : {s : List ℕ} {i : ℕ} {t : List ℕ} → is_flag (get_or t 0 0) ≡ false → starts_with (bytes "txn") t ≡ false → At s i t → transaction s i ≡ Miss
unfolding transaction opening flag ◌and◌ ◌else◌
transaction_misses {s} {i} {t} f e A = rw (at_byte A, f, word_misses (bytes "txn") t e A)

-- ---- after the date: which keyword

pub keyword_leads : (w : String) (content : List ℕ → ℕ → Rows) (s : List ℕ) (i : ℕ) → (g : ℕ → Rows) × (keyword w content s i ≡ (word (bytes w) s i and g))
unfolding keyword
keyword_leads w content s i = (_, refl)

abbrev pub keyed : ℕ → String → (List ℕ → ℕ → Rows) → Choice
keyed k w content = record { kind = k; name = w; reads = keyword w content; leads = keyword_leads w content }

unfoldable pub keywords : List Choice
keywords =
    keyed 7 "price" price_of ∷ keyed 8 "balance" balance_of ∷ keyed 9 "open" open_of ∷ keyed 10 "close" hard_account ∷ keyed 11 "pad" pad_of
    ∷ keyed 12 "commodity" hard_currency ∷ keyed 13 "event" event_of ∷ []

pub dateless_tried : (p : ℕ) (s : List ℕ) (g : ℕ) → dateless p s g ≡ (as_entry 6 p (transaction s g) else tried p s g keywords Miss)
unfolding dateless tried keywords
dateless_tried p s g = rw (else_none (as_entry 13 p (keyword "event" event_of s g)))

-- a keyword is no transaction
pub keyword_here : {s : List ℕ} {g : ℕ} (p k : ℕ) (w : String) (content : List ℕ → ℕ → Rows) {ms ns : List Item} (A : Again content ms) (M : Metas ns) (post : List ℕ)
    → is_flag (get_or (key_line w A M post) 0 0) ≡ false → starts_with (bytes "txn") (key_line w A M post) ≡ false → First (key_line w A M post) (keyed k w content) keywords → MetaStop post
    → At s g (key_line w A M post) → Made s (dateless p s g) k p (ms ++ ns) post
keyword_here {s} {g} p k w content {ms} {ns} A M post f t F stop B =
    subst (λ z. Made s z k p (ms ++ ns) post) (sym (dateless_tried p s g))
    (made_second (entry_misses 6 p (transaction_misses f t B)) (tried_is Miss p F B (keyword_is w content A M post stop B)))

-- ---- the date in front

pub dated_form : (s : List ℕ) (p : ℕ) (D : Day p) (t : List ℕ) {k : ℕ} {ms : List Item} {post : List ℕ} → is_blank (get_or t 0 0) ≡ false → At s 0 (date_text p ++ (32 ∷ t))
    → ((g : ℕ) → At s g t → Made s (dateless p s g) k p ms post)
    → Made s (form_of s) k p ms post
unfolding form_of directive date_text
dated_form s p D t b A f =
    let G = hard_gap_is missing_gap b (at_next (date_text p) (32 ∷ t) A) in
    made_first _ (made_then _ (date_reads s 0 p D (32 ∷ t) A) (made_then _ G.eq (f G.to G.rest)))
