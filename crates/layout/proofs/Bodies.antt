-- Rule 10's contents: what was read is written so that it reads again.
use Prim.Native.Nat.{ℕ}
use native.Mathlib.Omega.{arith}
use mathlib.Core.List.{append-nil, List, [], ◌∷◌, ◌++◌, append_assoc}
use mathlib.Core.Path.{◌≡◌, refl, sym, ◌∙◌, ap, subst}
use mathlib.Core.Bool.{Bool, true, false, cond}
use lib.Dec.{ltb, eqb}
use lib.ListN.{get_or}
use Rattle.text.specs.Bytes.{is_blank}
use Rattle.text.specs.Answer.{To, ◌and◌}
use Rattle.text.proofs.Ats.{At, at_more}
use Rattle.text.proofs.Inversions.{and_inv, must_inv}
use Rattle.text.specs.Every.{Every}
use Rattle.text.proofs.EveryLaws.{every_left, every_right}
use Rattle.text.specs.Leaves.{hard_gap}
use Rattle.text.specs.Refusals.{missing}
use Rattle.amount.specs.Details.{Rows}
use Rattle.amount.specs.Amounts.{hard_currency, hard_amount, price_of}
use Rattle.amount.specs.declared.detail.Detail.{Detail}
use Rattle.row.specs.Details.{spanned}
use Rattle.content.specs.Contents.{hard_account, hard_string, pad_of, event_of}
use Rattle.layout.specs.Written.{head_text, closing, no_item, size_text, value_text, quotes, sum_text, amount_text, detail_text, kind_of, printed}
use Rattle.layout.specs.Meaning.{Item, texted}
use Rattle.layout.proofs.Texts.{Tidy}
use Rattle.layout.proofs.Numbers.{size_head}
use Rattle.layout.proofs.Values.{Form, digit_blank, shown}
use Rattle.layout.proofs.Tokens.{Currency, Account}
use Rattle.layout.proofs.Neats.{Phrase, Neat, neat_join, neat_space, neat_account, neat_currency, neat_quotes, neat_value}
use Rattle.layout.proofs.Readings.{items, items_append, Fine, text_item, Reads, must_reads, skip_reads, and_reads, There, TextKind, there_map}
use Rattle.layout.proofs.Marks.{after_space, after_line, currency_blank, account_blank}
use Rattle.layout.proofs.Parts.{IsText, IsSum, sum_item, amount_kind_lem, hard_account_was, hard_account_is, hard_currency_was, hard_currency_is, quoted_was, quoted_is, hard_gap_was}
use Rattle.layout.proofs.Parts.{hard_gap_is, hard_amount_was, hard_amount_is}

-- ---- what rows write

-- the end of an entry
pub print_end : (k : ℕ) (prev : Item) (ds : List Item) → ltb (kind_of ds) 20 ≡ true → printed k prev ds ≡ closing k ++ printed 0 no_item ds
unfolding printed closing
print_end k prev [] e = sym (append-nil (closing k))
print_end k prev (d ∷ ds) e = rw e

-- an entry's own row
pub print_entry : (k : ℕ) (prev m : Item) (ds : List Item) → ltb m.kind 20 ≡ true → printed k prev (m ∷ ds) ≡ closing k ++ (head_text m (kind_of ds) ++ printed m.kind m ds)
unfolding printed
print_entry k prev m ds e = rw e

-- a detail
pub print_detail : (k : ℕ) (prev d : Item) (ds : List Item) → ltb d.kind 20 ≡ false → printed k prev (d ∷ ds) ≡ detail_text prev d (kind_of ds) ++ printed k d ds
unfolding printed
print_detail k prev d ds e = rw e

module _ (k : ℕ) (prev : Item) (ds : List Item) where
  pub print_account : (w : List ℕ) → printed k prev (text_item 25 w ∷ ds) ≡ 32 ∷ (w ++ printed k (text_item 25 w) ds)
  unfolding detail_text
  print_account w = print_detail k prev (text_item 25 w) ds refl

  print_currency : (w : List ℕ) → eqb prev.kind 31 ≡ false → printed k prev (text_item 31 w ∷ ds) ≡ 32 ∷ (w ++ printed k (text_item 31 w) ds)
  unfolding detail_text
  print_currency w e = print_detail k prev (text_item 31 w) ds refl ∙ rw e

  pub print_string : (w : List ℕ) → printed k prev (text_item 34 w ∷ ds) ≡ 32 ∷ (quotes w ++ printed k (text_item 34 w) ds)
  unfolding detail_text
  print_string w = print_detail k prev (text_item 34 w) ds refl

  pub print_sum : (v : ℕ) (c : List ℕ) → eqb prev.kind 28 ≡ false → eqb (kind_of ds) 27 ≡ false
      → printed k prev (sum_item 26 v c ∷ ds) ≡ 32 ∷ ((value_text v ++ (32 ∷ c)) ++ printed k (sum_item 26 v c) ds)
  unfolding detail_text amount_text sum_text
  print_sum v c e f = print_detail k prev (sum_item 26 v c) ds refl ∙ rw (e, f)

-- ---- a content

pub record Again (R : List ℕ → ℕ → Rows) (ms : List Item) : Type 0 where
  pub text : List ℕ
  pub last : Item
  pub neat : Neat text
  pub starts : (t : List ℕ) → is_blank (get_or (text ++ t) 0 0) ≡ false
  pub reads : (s : List ℕ) (i : ℕ) (t : List ℕ) → At s i (text ++ (10 ∷ t)) → Reads s (R s i) ms (10 ∷ t)
  pub prints : (k : ℕ) (prev : Item) (ds : List Item) → eqb prev.kind 31 ≡ false → eqb prev.kind 28 ≡ false → eqb (kind_of ds) 27 ≡ false
      → printed k prev (ms ++ ds) ≡ 32 ∷ (text ++ printed k last ds)

abbrev pub Anew : (List ℕ → ℕ → Rows) → Type 0
Anew R = (s : List ℕ) (i j : ℕ) (t : List ℕ) (rs : List Detail) → Tidy s → At s i t → R s i ≡ To j rs → Every Fine rs → There s j rs (Again R)

pub again_is : {R : List ℕ → ℕ → Rows} {ms ns : List Item} → ms ≡ ns → Again R ns → Again R ms
again_is {R} e G = subst (Again R) (sym e) G

-- a content of one text
text_anew : {R : List ℕ → ℕ → Rows} (k : ℕ) (G : List ℕ → Type 0) {s : List ℕ} {j : ℕ} {rs : List Detail} → ((w : List ℕ) → G w → Neat w) → ((w t : List ℕ) → G w → is_blank (get_or (w ++ t) 0 0) ≡ false)
    → ((s : List ℕ) (i : ℕ) (w t : List ℕ) → G w → At s i (w ++ (10 ∷ t)) → Reads s (R s i) (text_item k w ∷ []) (10 ∷ t))
    → ((m : ℕ) (prev : Item) (ds : List Item) (w : List ℕ) → eqb prev.kind 31 ≡ false → printed m prev (text_item k w ∷ ds) ≡ 32 ∷ (w ++ printed m (text_item k w) ds))
    → There s j rs (IsText G k) → There s j rs (Again R)
text_anew {R} k G neat starts reads prints = there_map (λ ms a.
    again_is {R = R} a.2 (record {
      text = a.0;
      last = text_item k a.0;
      neat = neat a.0 a.1;
      starts = λ t. starts a.0 t a.1;
      reads = λ s i t. reads s i a.0 t a.1;
      prints = λ m prev ds e f g. prints m prev ds a.0 e;
    }))

-- Close.
pub close_anew : Anew hard_account
close_anew s i j t rs T A h f =
    text_anew 25 Account neat_account account_blank (λ s i w t C. hard_account_is w (10 ∷ t) C (after_line t)) (λ m prev ds w e. print_account m prev ds w) (hard_account_was A h)

-- Commodity.
pub commodity_anew : Anew hard_currency
commodity_anew s i j t rs T A h f =
    text_anew 31 Currency neat_currency currency_blank (λ s i w t C. hard_currency_is w (10 ∷ t) C (after_line t)) print_currency (hard_currency_was A h)

abbrev pub Was : (List ℕ → ℕ → Rows) → (List Item → Type 0) → Type 0
Was R G = (s : List ℕ) (i j : ℕ) (t : List ℕ) (rs : List Detail) → Tidy s → At s i t → R s i ≡ To j rs → Every Fine rs → There s j rs G

-- one part, a gap, and another
module _ (P Q : List ℕ → ℕ → Rows) where
  abbrev Pair : List ℕ → ℕ → Rows
  Pair s at = P s at and λ a. hard_gap missing s a and λ g. Q s g

  pair_was : (G H : List Item → Type 0)
      → Was P G → Was Q H → (s : List ℕ) (i j : ℕ) (t : List ℕ) (rs : List Detail) → Tidy s → At s i t → Pair s i ≡ To j rs → Every Fine rs
      → There s j rs (λ ks. (ms : List Item) × (ns : List Item) × G ms × H ns × (ks ≡ ms ++ ns))
  pair_was G H p q s i j t rs T A h f =
      let a = and_inv (P s i) _ j rs h in
      let b = and_inv (hard_gap missing s a.0) _ j a.2 a.4 in
      let g = subst (Every Fine) a.5 f in
      let Z = p s i a.0 t a.1 T A a.3 (every_left Fine a.1 a.2 g) in
      let B = hard_gap_was missing Z.place b.3 in
      let e = b.5 ∙ ap (λ z. z ++ b.2) B.0 in
      let U = q s b.0 j _ b.2 T B.1 b.4 (subst (Every Fine) e (every_right Fine a.1 a.2 g)) in
      record { rest = U.rest; place = U.place; is = (items s a.1, items s b.2, Z.is, U.is, ap (items s) (a.5 ∙ ap (λ z. a.1 ++ z) e) ∙ items_append s a.1 b.2) }

  pair_is : (s : List ℕ) (i : ℕ) (ms ns : List Item) (t u post : List ℕ) → ((i : ℕ) → At s i (t ++ (32 ∷ (u ++ post))) → Reads s (P s i) ms (32 ∷ (u ++ post)))
      → ((i : ℕ) → At s i (u ++ post) → Reads s (Q s i) ns post) → is_blank (get_or (u ++ post) 0 0) ≡ false → At s i (t ++ (32 ∷ (u ++ post))) → Reads s (Pair s i) (ms ++ ns) post
  pair_is s i ms ns t u post p q b A = and_reads ms ns (p i A) (λ a B. skip_reads (hard_gap_is missing b B) (λ g C. q g C))

-- two parts as one content
pair_again : {R : List ℕ → ℕ → Rows} (m n : Item) (t u : List ℕ) → Neat t → Neat u → ((x : List ℕ) → is_blank (get_or (t ++ x) 0 0) ≡ false)
    → ((s : List ℕ) (i : ℕ) (x : List ℕ) → At s i (t ++ (32 ∷ (u ++ (10 ∷ x)))) → Reads s (R s i) (m ∷ n ∷ []) (10 ∷ x))
    → ((k : ℕ) (prev : Item) (ds : List Item) → eqb prev.kind 31 ≡ false → eqb prev.kind 28 ≡ false → eqb (kind_of ds) 27 ≡ false
    → printed k prev (m ∷ n ∷ ds) ≡ 32 ∷ (t ++ (32 ∷ (u ++ printed k n ds)))) → Again R (m ∷ n ∷ [])
pair_again m n t u N O b r p = record {
  text = t ++ (32 ∷ u);
  last = n;
  neat = neat_join t (32 ∷ u) N (neat_space u O);
  starts = λ x. rw (append_assoc t (32 ∷ u) x) (b (32 ∷ (u ++ x)));
  reads = λ s i x A. r s i x (at_more t (32 ∷ u) (10 ∷ x) A);
  prints = λ k prev ds e f g. p k prev ds e f g ∙ ap (λ z. 32 ∷ z) (sym (append_assoc t (32 ∷ u) (printed k n ds)));
}

pub string_kind_lem : TextKind 34
unfolding texted spanned
string_kind_lem = (refl, refl)

pub hard_string_was : Was hard_string (IsText (Phrase) 34)
unfolding hard_string
hard_string_was s i j t rs T A h f = quoted_was 34 string_kind_lem T A (must_inv missing i _ j rs h)

pub hard_string_is : (s : List ℕ) (i : ℕ) (w post : List ℕ) → Phrase w → At s i (quotes w ++ post) → Reads s (hard_string s i) (text_item 34 w ∷ []) post
unfolding hard_string
hard_string_is s i w post C A = must_reads missing i (quoted_is 34 string_kind_lem w post C A)

pub quote_blank : (w t : List ℕ) → is_blank (get_or (quotes w ++ t) 0 0) ≡ false
unfolding quotes is_blank
quote_blank w t = refl

-- Pad.
pub pad_anew : Anew pad_of
unfolding pad_of
pad_anew s i j t rs T A h f = there_map (λ ks p.
    let a = p.2 in
    let b = p.3 in
    again_is (p.4 ∙ ap (λ z. z ++ p.1) a.2 ∙ ap (λ z. text_item 25 a.0 ∷ z) b.2)
    (pair_again (text_item 25 a.0) (text_item 25 b.0) a.0 b.0 (neat_account a.0 a.1) (neat_account b.0 b.1) (λ x. account_blank a.0 x a.1)
    (λ s i x. pair_is hard_account hard_account s i (text_item 25 a.0 ∷ []) (text_item 25 b.0 ∷ []) a.0 b.0 (10 ∷ x)
    (λ i. hard_account_is a.0 (32 ∷ (b.0 ++ (10 ∷ x))) a.1 (after_space _)) (λ i. hard_account_is b.0 (10 ∷ x) b.1 (after_line x)) (account_blank b.0 (10 ∷ x) b.1))
    (λ k prev ds e f g. print_account k prev (text_item 25 b.0 ∷ ds) a.0 ∙ ap (λ z. 32 ∷ (a.0 ++ z)) (print_account k (text_item 25 a.0) ds b.0))))
    (pair_was hard_account hard_account (IsText Account 25) (IsText Account 25) (λ s i j t rs T A h f. hard_account_was A h) (λ s i j t rs T A h f. hard_account_was A h) s i j t rs T A h f)

-- Event.
pub event_anew : Anew event_of
unfolding event_of
event_anew s i j t rs T A h f = there_map (λ ks p.
    let a = p.2 in
    let b = p.3 in
    again_is (p.4 ∙ ap (λ z. z ++ p.1) a.2 ∙ ap (λ z. text_item 34 a.0 ∷ z) b.2)
    (pair_again (text_item 34 a.0) (text_item 34 b.0) (quotes a.0) (quotes b.0) (neat_quotes a.0 a.1.neat) (neat_quotes b.0 b.1.neat) (λ x. quote_blank a.0 x)
    (λ s i x. pair_is hard_string hard_string s i (text_item 34 a.0 ∷ []) (text_item 34 b.0 ∷ []) (quotes a.0) (quotes b.0) (10 ∷ x)
    (λ i. hard_string_is s i a.0 (32 ∷ (quotes b.0 ++ (10 ∷ x))) a.1) (λ i. hard_string_is s i b.0 (10 ∷ x) b.1) (quote_blank b.0 (10 ∷ x)))
    (λ k prev ds e f g. print_string k prev (text_item 34 b.0 ∷ ds) a.0 ∙ ap (λ z. 32 ∷ (quotes a.0 ++ z)) (print_string k (text_item 34 a.0) ds b.0))))
    (pair_was hard_string hard_string (IsText (Phrase) 34) (IsText (Phrase) 34) hard_string_was hard_string_was s i j t rs T A h f)

-- a value's first byte is no blank
pub value_blank : (v : ℕ) (t : List ℕ) → Form v → is_blank (get_or (value_text v ++ t) 0 0) ≡ false
value_blank v t F = rw F.text (go F.minus)
  where
    go : (m : Bool) → is_blank (get_or (cond m (45 ∷ size_text F.size) (size_text F.size) ++ t) 0 0) ≡ false
    go true = shown 45 (omega arith)
    go false = let h = size_head F.size in rw h.2 (digit_blank h.0 h.3)

-- Price.
pub price_anew : Anew price_of
unfolding price_of
price_anew s i j t rs T A h f = there_map (λ ks p.
    let a = p.2 in
    let b = p.3 in
    let m = sum_item 26 b.0 b.1 in
    let u = value_text b.0 ++ (32 ∷ b.1) in
    again_is (p.4 ∙ ap (λ z. z ++ p.1) a.2 ∙ ap (λ z. text_item 31 a.0 ∷ z) b.4)
    (pair_again (text_item 31 a.0) m a.0 u (neat_currency a.0 a.1)
    (neat_join (value_text b.0) (32 ∷ b.1) (neat_value b.0 b.2) (neat_space b.1 (neat_currency b.1 b.3))) (λ x. currency_blank a.0 x a.1)
    (λ s i x. pair_is hard_currency (hard_amount 26) s i (text_item 31 a.0 ∷ []) (m ∷ []) a.0 u (10 ∷ x)
    (λ i. hard_currency_is a.0 (32 ∷ (u ++ (10 ∷ x))) a.1 (after_space _)) (λ i. hard_amount_is s i 26 amount_kind_lem b.0 b.1 (10 ∷ x) b.2 b.3 (after_line x))
    (rw (append_assoc (value_text b.0) (32 ∷ b.1) (10 ∷ x)) (value_blank b.0 _ b.2)))
    (λ k prev ds e f g. print_currency k prev (m ∷ ds) a.0 e ∙ ap (λ z. 32 ∷ (a.0 ++ z)) (print_sum k (text_item 31 a.0) ds b.0 b.1 refl g))))
    (pair_was hard_currency (hard_amount 26) (IsText Currency 31) (IsSum 26) (λ s i j t rs T A h f. hard_currency_was A h)
    (λ s i j t rs T A h f. hard_amount_was s i 26 amount_kind_lem A h f) s i j t rs T A h f)
