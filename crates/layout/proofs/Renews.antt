-- Directives, renewed: those with a keyword; and a directive is one of them or a transaction.
use Rattle.text.specs.declared.stop.Cause.{Cause}
use Rattle.std.specs.Prelude.{Some}
use Prim.Native.Nat.{ℕ}
use Prim.Native.String.{String}
use native.Mathlib.Omega.{arith}
use mathlib.Core.Logic.{◌⊎◌, inl, inr}
use mathlib.Core.Path.{◌≡◌, refl, sym, ◌∙◌, ap, ap₂, subst}
use mathlib.Core.Bool.{true, false}
use mathlib.Core.List.{List, [], ◌∷◌, ◌++◌, append_assoc}
use lib.Dec.{eqb, ltb}
use lib.ListN.{get_or, drop}
use Rattle.text.specs.Answer.{Miss, To}
use Rattle.text.specs.Bytes.{is_blank, bytes, is_small, is_digit}
use Rattle.text.specs.Run.{blanks}
use Rattle.text.specs.Leaves.{gap, hard_gap, date}
use Rattle.text.specs.Lines.{gap_at}
use Rattle.text.specs.Words.{starts_with}
use Rattle.text.proofs.Ats.{At, at_drop, at_in}
use Rattle.text.proofs.Inversions.{must_inv, then_inv, token_inv, else_inv, not_miss}
use Rattle.text.proofs.TokenEnds.{date_reach}
use Rattle.amount.specs.Details.{Rows}
use Rattle.amount.specs.Amounts.{hard_currency, price_of}
use Rattle.amount.specs.declared.detail.Detail.{Detail}
use Rattle.content.specs.Contents.{hard_account, pad_of, event_of, balance_of, open_of}
use Rattle.transaction.specs.Transaction.{transaction}
use Rattle.entry.specs.Directive.{keyword}
use Rattle.entry.specs.Forms.{Form as Entry, as_entry, dateless, directive}
use Rattle.layout.specs.Meaning.{Item, texted}
use Rattle.layout.specs.Written.{kind_of, printed, date_text, head_text, closing, no_item}
use Rattle.layout.proofs.Texts.{Tidy}
use Rattle.layout.proofs.Values.{run_past}
use Rattle.text.proofs.DayLaws.{Day, date_there, date_head}
use Rattle.text.specs.Every.{Every}
use Rattle.text.specs.Refusals.{missing_gap}
use Rattle.layout.proofs.Tokens.{read_if}
use Rattle.layout.proofs.Neats.{Neat, neat_join, neat_cons, neat_space, neat_none, free_feed}
use Rattle.layout.proofs.Readings.{items, Fine}
use Rattle.layout.proofs.Marks.{reached}
use Rattle.layout.proofs.Parts.{hard_gap_was}
use Rattle.layout.proofs.Bodies.{Anew, close_anew, commodity_anew, pad_anew, event_anew, price_anew, print_end, print_entry}
use Rattle.layout.proofs.Balances.{balance_anew}
use Rattle.layout.proofs.Opens.{open_anew}
use Rattle.layout.proofs.Metas.{MetaStop, metas_text, metas_print, metas_neat, metas_behind, metas_kind}
use Rattle.layout.proofs.Choices.{Made, First, lettered_first, lettered_neat, tried, tried_was, first_of, later, lettered, small_all}
use Rattle.layout.proofs.Directives.{Lined, keyword_was, dateless_tried, keyword_here, keyed, keywords, key_line}
use Rattle.layout.proofs.Compose.{Boundary, Renewal, own_item, renewal}
use Rattle.layout.proofs.Fronts.{sharp_small, small_flag}
use Rattle.layout.proofs.DatedEntries.{Behind, dated_renewed}
use Rattle.layout.proofs.Trades.{from_transaction}

-- ---- a keyword's entry

-- what is to be known of each keyword
pub record Word (k : ℕ) (w : String) (content : List ℕ → ℕ → Rows) : Type 0 where
  pub low : ltb k 20 ≡ true
  pub no_text : texted k ≡ false
  pub no_currency : eqb k 31 ≡ false
  pub no_cost : eqb k 28 ≡ false
  pub closes : closing k ≡ 10 ∷ []
  pub head : (p next : ℕ) → head_text (own_item k p) next ≡ date_text p ++ (32 ∷ bytes w)
  pub small : lettered (bytes w) ≡ true
  pub no_txn : (t : List ℕ) → starts_with (bytes "txn") (bytes w ++ t) ≡ false
  pub first : (t : List ℕ) → First (bytes w ++ (32 ∷ t)) (keyed k w content) keywords

module _ (k : ℕ) (w : String) (content : List ℕ → ℕ → Rows) (W : Word k w content) (s : List ℕ) (p n : ℕ) (r : List ℕ) (E : At s n r) (ks : List Item) (L : Lined s n content ks) where
  line : List ℕ → List ℕ
  line v = key_line w L.again L.metas v

  goes_on : (v : List ℕ) → line [] ++ v ≡ line v
  unfolding line
  goes_on v =
      append_assoc (bytes w) (32 ∷ (L.again.text ++ (10 ∷ metas_text L.metas []))) v
      ∙ ap (λ z. bytes w ++ (32 ∷ z)) (append_assoc L.again.text (10 ∷ metas_text L.metas []) v ∙ ap (λ z. L.again.text ++ (10 ∷ z)) (metas_behind L.metas [] v))

  line_neat : Neat (line [])
  unfolding line
  line_neat =
      neat_join (bytes w) _ (lettered_neat (bytes w) W.small) (neat_space _ (neat_join L.again.text _ L.again.neat (neat_cons 10 _ free_feed (metas_neat L.metas [] neat_none))))

  line_first : (v : List ℕ) → is_small (get_or (line v) 0 0) ≡ true
  unfolding line
  line_first v = lettered_first (bytes w) _ W.small

  row_prints : (j : ℕ) (prev : Item) (ds : List Item) → ltb (kind_of ds) 20 ≡ true → printed j prev (own_item k p ∷ (ks ++ ds)) ≡ closing j ++ (date_text p ++ (32 ∷ line (printed 0 no_item ds)))
  unfolding line
  row_prints j prev ds e =
      let v = printed 0 no_item ds in
      let M = L.metas in
      let A = L.again in
      let q : printed k (own_item k p) (ks ++ ds) ≡ 32 ∷ (A.text ++ (10 ∷ metas_text M v)) =
      ap (λ z. printed k (own_item k p) (z ++ ds)) L.is ∙ ap (printed k (own_item k p)) (append_assoc L.ms L.ns ds)
      ∙ A.prints k (own_item k p) (L.ns ++ ds) W.no_currency W.no_cost (metas_kind M ds 27 (omega arith) (omega arith) e)
      ∙ ap (λ z. 32 ∷ (A.text ++ z)) (metas_print M k A.last ds v (λ prev. print_end k prev ds e ∙ ap (λ z. z ++ v) W.closes)) in
      print_entry j prev (own_item k p) (ks ++ ds) W.low
      ∙ ap (λ z. closing j ++ z) (ap₂ (λ x y. x ++ y) (W.head p (kind_of (ks ++ ds))) q ∙ append_assoc (date_text p) (32 ∷ bytes w) _)

  row_reads_again : (u v : List ℕ) (g : ℕ) → Boundary r v → At u g (line v) → Made u (dateless p u g) k p ks v
  unfolding line line_first
  row_reads_again u v g B G =
      let stop : MetaStop v = λ u m C. B.meta s u n m E C L.stop in
      subst (λ z. Made u (dateless p u g) k p z v) (sym L.is) (keyword_here p k w content L.again L.metas v (small_flag _ (line_first v)) (W.no_txn _) (W.first _) stop G)

  keyword_behind : Behind k p ks r
  keyword_behind = record {
    line = line;
    goes_on = goes_on;
    tidy = λ v h. subst Tidy (goes_on v) (line_neat.before v h);
    blank = λ v. (sharp_small _ (line_first v)).blank;
    prints = row_prints;
    reads = row_reads_again;
  }

-- ---- the keywords

word : (k : ℕ) (w : String) (content : List ℕ → ℕ → Rows) → (ltb k 20 ≡ true) × (texted k ≡ false) × (eqb k 31 ≡ false) × (eqb k 28 ≡ false) × (closing k ≡ 10 ∷ [])
    → ((p next : ℕ) → head_text (own_item k p) next ≡ date_text p ++ (32 ∷ bytes w)) → lettered (bytes w) ≡ true → ((t : List ℕ) → starts_with (bytes "txn") (bytes w ++ t) ≡ false)
    → ((t : List ℕ) → First (bytes w ++ (32 ∷ t)) (keyed k w content) keywords) → Word k w content
word k w content (a, b, c, d, e) h l t f = record { low = a; no_text = b; no_currency = c; no_cost = d; closes = e; head = h; small = l; no_txn = t; first = f }

words : Word 7 "price" price_of × Word 8 "balance" balance_of × Word 9 "open" open_of × Word 10 "close" hard_account × Word 11 "pad" pad_of × Word 12 "commodity" hard_currency × Word 13 "event" event_of
unfolding texted closing head_text bytes lettered small_all is_small starts_with keywords
words = (
  word 7 "price" price_of (refl, refl, refl, refl, refl) (λ p next. refl) refl (λ t. refl) (λ t. first_of),
  word 8 "balance" balance_of (refl, refl, refl, refl, refl) (λ p next. refl) refl (λ t. refl) (λ t. later refl first_of),
  word 9 "open" open_of (refl, refl, refl, refl, refl) (λ p next. refl) refl (λ t. refl) (λ t. later refl (later refl first_of)),
  word 10 "close" hard_account (refl, refl, refl, refl, refl) (λ p next. refl) refl (λ t. refl) (λ t. later refl (later refl (later refl first_of))),
  word 11 "pad" pad_of (refl, refl, refl, refl, refl) (λ p next. refl) refl (λ t. refl) (λ t. later refl (later refl (later refl (later refl first_of)))),
  word 12 "commodity" hard_currency (refl, refl, refl, refl, refl) (λ p next. refl) refl (λ t. refl) (λ t. later refl (later refl (later refl (later refl (later refl first_of))))),
  word 13 "event" event_of (refl, refl, refl, refl, refl) (λ p next. refl) refl (λ t. refl) (λ t. later refl (later refl (later refl (later refl (later refl (later refl first_of)))))),
)

-- ---- the entry that was read

-- an entry that a keyword made, after a date
module _ (s : List ℕ) (p n : ℕ) (D : Day p) (first : is_digit (get_or s 0 0) ≡ true) (T : Tidy s) (g : ℕ) (t : List ℕ) (A : At s g t) (f : Entry) (fine : Every Fine f.details) where
  from_word : {k : ℕ} {w : String} {content : List ℕ → ℕ → Rows} → Word k w content → Anew content → as_entry k p (keyword w content s g) ≡ To n f → Renewal s n f
  from_word {k} {w} {content} W anew h = renewal s k p n (keyword w content s g) f W.no_text h fine (λ rs e fs.
      let L = keyword_was w content anew s g n t rs T A e fs in
      dated_renewed s k p D W.no_text first (items s rs) (drop n s) (keyword_behind k w content W s p n (drop n s) (at_drop s n (at_in L.place)) (items s rs) L.is))

  from_keywords : tried p s g keywords Miss ≡ To n f → Renewal s n f
  unfolding keywords
  from_keywords =
      tried_was s g p n f (Renewal s n f) keywords Miss (
        from_word words.0 price_anew,
        (
          from_word words.1 balance_anew,
          (from_word words.2 open_anew, (from_word words.3 close_anew, (from_word words.4 pad_anew, (from_word words.5 commodity_anew, (from_word words.6 event_anew, tt))))),
        ),
      )
      (λ m h. not_miss h)

blank_none : is_blank 0 ≡ false
unfolding is_blank
blank_none = refl

-- past a gap stands no blank
gap_past : (n : Cause) (s : List ℕ) (i j : ℕ) (rs : List Detail) → hard_gap n s i ≡ To j rs → is_blank (get_or (drop j s) 0 0) ≡ false
unfolding hard_gap gap gap_at
gap_past n s i j rs h =
    let a = token_inv (gap_at s i) j rs (must_inv n i _ j rs h) in
    let b = read_if (ltb i (blanks s i)) (Some (blanks s i)) j a.0 in
    run_past is_blank blank_none s i j cc

-- a directive: a transaction or a keyword
pub directive_renewed : (s : List ℕ) (n : ℕ) (f : Entry) → directive s ≡ To n f → Every Fine f.details → Tidy s → Renewal s n f
unfolding directive
directive_renewed s n f h fine T =
    let a = then_inv (date s 0) _ n f h in
    let b = then_inv (hard_gap {A = Detail} missing_gap s a.0) _ n f a.3 in
    let d = date_there s 0 a.0 a.1 a.2 in
    let E = reached {s = s} (date_reach s 0 (omega arith)) a.2 in
    let G = hard_gap_was missing_gap E b.2 in
    let first = date_head s a.0 a.1 a.2 in
    go a.1 b.0 d.0 first G.1 (gap_past missing_gap s a.0 b.0 b.1 b.2) (else_inv (as_entry 6 a.1 (transaction s b.0)) _ n f (sym (dateless_tried a.1 s b.0) ∙ b.3))
  where
    go : (p g : ℕ) → Day p → is_digit (get_or s 0 0) ≡ true → At s g (drop g s) → is_blank (get_or (drop g s) 0 0) ≡ false
        → (as_entry 6 p (transaction s g) ≡ To n f) ⊎ ((as_entry 6 p (transaction s g) ≡ Miss) × (tried p s g keywords Miss ≡ To n f)) → Renewal s n f
    go p g D first A b (inl h) = from_transaction s p n D first T g (drop g s) A b f h fine
    go p g D first A b (inr h) = from_keywords s p n D first T g (drop g s) A f fine h.1
