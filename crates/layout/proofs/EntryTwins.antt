-- An entry, and what follows one, that misses in one of the two texts misses in the other.
use Prim.Native.Nat.{ℕ, suc}
use Prim.Native.String.{String}
use mathlib.Core.Path.{sym, ◌∙◌, ◌≡◌, refl}
use mathlib.Core.Bool.{false}
use mathlib.Core.List.{List, [], ◌∷◌}
use lib.ListN.{length}
use Rattle.text.specs.Bytes.{bytes}
use Rattle.text.specs.Answer.{Miss, ◌and◌, ◌else◌, must, maybe, many}
use Rattle.text.specs.Leaves.{line_end, empty_line}
use Rattle.text.proofs.InLine.{has_lf}
use Rattle.text.specs.Every.{Every}
use Rattle.text.proofs.Alike.{alike_map, and_alike, both_to, else_alike, must_alike}
use Rattle.text.proofs.SharedLines.{date_alike, empty_alike, gap_alike, hard_gap_alike, line_alike, tag_alike, word_alike}
use Rattle.text.specs.Refusals.{missing, missing_gap}
use Rattle.amount.specs.declared.detail.Detail.{Detail}
use Rattle.amount.specs.Details.{Rows}
use Rattle.amount.specs.Amounts.{hard_currency, price_of}
use Rattle.amount.proofs.AmountLaws.{hard_currency_alike, price_of_alike}
use Rattle.posting.specs.Metadata.{metadata, meta_line, meta_step}
use Rattle.posting.specs.Postings.{posting, body_step, body, posting_line}
use Rattle.posting.proofs.PostingAlike.{flag_alike}
use Rattle.content.specs.Contents.{hard_account, balance_of, open_of, pad_of, event_of}
use Rattle.content.proofs.ContentAlike.{balance_of_alike, hard_account_alike, pad_of_alike}
use Rattle.transaction.specs.Transaction.{opening, texts, mark, marks, transaction}
use Rattle.entry.specs.Directive.{keyword, option, include, tagged}
use Rattle.entry.specs.Forms.{dateless, directive}
use Rattle.transaction.proofs.TransactionAgree.{txn_lf}
use Rattle.layout.proofs.Misses.{no_miss, first_misses, blank_line, else_miss, no_maybe, no_must, to_miss}
use Rattle.layout.proofs.Choices.{Choice, tried}
use Rattle.layout.proofs.Directives.{dateless_tried, keywords}
use Rattle.layout.proofs.Wordings.{wordings}
use Rattle.layout.proofs.Follows.{Follow, alike_miss, and_follow, else_follow, entry_follow, then_follow}
use Rattle.layout.proofs.QuietLines.{Behind, Spot, Twin, quiet}
use Rattle.layout.proofs.StringTwins.{event_of_twin, meta_step_twin, open_of_twin, posting_twin, quoted_twin, string_must}

-- a transaction misses where nothing opens it
rest_misses : (s : List ℕ) (i : ℕ) → transaction s i ≡ Miss → opening s i ≡ Miss
unfolding transaction marks metadata body
rest_misses s i e =
    first_misses (opening s i) _ (λ a m. no_maybe a _ (first_misses (maybe a (texts s a)) _
    (λ b m. no_miss (mark s) _ b (first_misses (many (mark s) (suc (length s)) b) _ (λ c m. no_must missing c _ (first_misses (must missing c (line_end s c)) _ (λ d m.
    no_miss (meta_step s) _ d (first_misses (many (meta_step s) (suc (length s)) d) _ (λ k m. no_miss (body_step s) _ k m) m)) m)) m)) m)) e

-- words of a list, in two texts
tried_follow : (p q : ℕ) (s z : List ℕ) (i j : ℕ) (cs : List Choice) → Every (λ c. Follow (c.reads s i) (c.reads z j)) cs → Follow (tried p s i cs Miss) (tried q z j cs Miss)
unfolding tried
tried_follow p q s z i j [] f = λ e. refl
tried_follow p q s z i j (c ∷ cs) f = else_follow _ _ _ _ (entry_follow c.kind p q _ _ f.0) (tried_follow p q s z i j cs f.1)

module _ {s z : List ℕ} where
  keyword_follow : {i j : ℕ} (w : String) → has_lf (bytes w) ≡ false → (content : List ℕ → ℕ → Rows)
      → ((i j : ℕ) → Spot s z i j → Twin s z (content s i) (content z j)) → Spot s z i j → Follow (keyword w content s i) (keyword w content z j)
  unfolding keyword metadata
  keyword_follow w f content C S =
      and_follow _ _ (word_alike quiet (bytes w) f S) (λ a b P. and_follow _ _ (hard_gap_alike quiet missing_gap P)
      (λ c d Q. and_follow _ _ (C c d Q) (λ e g R. and_follow _ _ (line_alike quiet R) (λ k l U m. absurd (no_miss (meta_step s) _ k m)))))

  opening_follow : {i j : ℕ} → Spot s z i j → Follow (opening s i) (opening z j)
  unfolding opening
  opening_follow S =
      alike_miss (else_alike (and_alike _ _ (flag_alike quiet {M = Behind} S tt) (λ a b P. both_to a b _ _ P (λ q. absurd q))) (alike_map (λ i j P. tt) (word_alike quiet (bytes "txn") txn_lf S)))

  transaction_follow : {i j : ℕ} → Spot s z i j → Follow (transaction s i) (transaction z j)
  unfolding transaction ◌and◌
  transaction_follow {i} {j} S e = rw (opening_follow S (rest_misses s i e))

  keywords_follow : {i j : ℕ} → Spot s z i j → Every (λ c. Follow (c.reads s i) (c.reads z j)) keywords
  unfolding keywords has_lf bytes
  keywords_follow S = (
    keyword_follow "price" refl price_of (λ i j P. price_of_alike quiet P) S,
    (
      keyword_follow "balance" refl balance_of (λ i j P. balance_of_alike quiet P) S,
      (
        keyword_follow "open" refl open_of (λ i j P. open_of_twin P) S,
        (
          keyword_follow "close" refl hard_account (λ i j P. hard_account_alike quiet P) S,
          (
            keyword_follow "pad" refl pad_of (λ i j P. pad_of_alike quiet P) S,
            (
              keyword_follow "commodity" refl hard_currency (λ i j P. hard_currency_alike quiet P) S,
              (keyword_follow "event" refl event_of (λ i j P. event_of_twin P) S, tt),
            ),
          ),
        ),
      ),
    ),
  )

  dateless_follow : {i j : ℕ} (p q : ℕ) → Spot s z i j → Follow (dateless p s i) (dateless q z j)
  dateless_follow {i} {j} p q S e =
      dateless_tried q z j
      ∙ else_follow _ _ _ _ (entry_follow 6 p q _ _ (transaction_follow S)) (tried_follow p q s z i j keywords (keywords_follow S)) (sym (dateless_tried p s i) ∙ e)

  pub directive_follow : Spot s z 0 0 → Follow (directive s) (directive z)
  unfolding directive
  directive_follow S = then_follow _ _ (date_alike quiet S) (λ a b x y P. then_follow _ _ (hard_gap_alike quiet {A = Detail} missing_gap P) (λ c d k l Q. dateless_follow x y Q))

  option_follow : {i j : ℕ} → Spot s z i j → Follow (option s i) (option z j)
  unfolding option has_lf bytes
  option_follow S =
      and_follow _ _ (word_alike quiet (bytes "option") refl S) (λ a b P. and_follow _ _ (gap_alike quiet P) (λ c d Q. and_follow _ _ (quoted_twin _ _ Q) (λ e f R. and_follow _ _ (gap_alike quiet R) (λ g h U.
      and_follow _ _ (quoted_twin _ _ U) (λ k l W. alike_miss (line_alike quiet W))))))

  include_follow : {i j : ℕ} → Spot s z i j → Follow (include s i) (include z j)
  unfolding include has_lf bytes
  include_follow S =
      and_follow _ _ (word_alike quiet (bytes "include") refl S) (λ a b P. and_follow _ _ (hard_gap_alike quiet missing_gap P) (λ c d Q. and_follow _ _ (string_must Q) (λ e f R. alike_miss (must_alike missing e f (λ q. absurd q) (line_alike quiet R)))))

  tagged_follow : {i j : ℕ} (w : String) → has_lf (bytes w) ≡ false → Spot s z i j → Follow (tagged w s i) (tagged w z j)
  unfolding tagged
  tagged_follow w f S =
      and_follow _ _ (word_alike quiet (bytes w) f S) (λ a b P. and_follow _ _ (gap_alike quiet P) (λ c d Q. and_follow _ _ (tag_alike quiet Q) (λ e g R. λ m. to_miss m)))

  pub wordings_follow : Spot s z 0 0 → Every (λ c. c.reads s 0 ≡ Miss) wordings → Every (λ c. c.reads z 0 ≡ Miss) wordings
  unfolding wordings has_lf bytes
  wordings_follow S m =
      (option_follow S m.0, (include_follow S m.1.0, (tagged_follow "pushtag" refl S m.1.1.0, (tagged_follow "poptag" refl S m.1.1.1.0, tt))))

  -- ---- what follows an entry

  pub meta_follow : {i j : ℕ} → Spot s z i j → meta_step s i ≡ Miss → meta_step z j ≡ Miss
  meta_follow S = alike_miss (meta_step_twin S)

  pub body_follow : {i j : ℕ} → Spot s z i j → meta_step s i ≡ Miss → body_step s i ≡ Miss → body_step z j ≡ Miss
  unfolding meta_step body_step posting metadata ◌else◌ ◌and◌
  body_follow {i} {j} S m b =
      let e = (else_miss (meta_line s i) (empty_line s i) m).1 in
      let f = blank_line s i (quiet.inside i j S).0 e in
      let p = first_misses (posting_line s i) _ (no_miss (meta_step s) _) (else_miss (posting_line s i and λ l. many (meta_step s) (suc (length s)) l) (empty_line s i) b).0 in
      rw (alike_miss (posting_twin S f) p) (alike_miss (empty_alike quiet S) e)
