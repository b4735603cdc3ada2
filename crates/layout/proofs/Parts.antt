-- Rows of one text or value: what was read there, and that it reads again where it is written.
use Rattle.text.specs.declared.stop.Cause.{Cause}
use Rattle.decimal.specs.Faults.{Value}
use Rattle.std.specs.Prelude.{Ok}
use Prim.Native.Nat.{ℕ, ◌+◌, ◌-◌}
use native.Mathlib.Omega.{arith}
use mathlib.Core.Path.{◌≡◌, refl, sym, ◌∙◌, ap, subst}
use mathlib.Core.Bool.{true, false}
use mathlib.Core.List.{List, [], ◌∷◌, ◌++◌, append_assoc}
use lib.ListN.{length, get_or, drop, length-append}
use Rattle.decimal.specs.Exact.{whole_of, decimal_of, twos_of}
use Rattle.decimal.specs.declared.Decimal.{Decimal}
use Rattle.text.specs.Bytes.{is_blank, between}
use Rattle.text.specs.Lines.{gap_at}
use Rattle.text.specs.Strings.{string_at}
use Rattle.text.specs.Currencies.{currency_at}
use Rattle.text.specs.Answer.{To, ◌then◌, ◌and◌, more, must, maybe}
use Rattle.text.specs.Leaves.{gap, hard_gap, string, currency}
use Rattle.text.specs.Accounts.{account}
use Rattle.text.specs.steps.Accounts.{account_at, account_answer}
use Rattle.text.proofs.TokenEnds.{gap_reach}
use Rattle.text.proofs.Ats.{At, at_next, at_one, at_more, at_place, at_in}
use Rattle.text.proofs.Inversions.{and_inv, must_inv, then_inv, token_inv, to_inv, account_inv}
use Rattle.text.proofs.AccountLaws.{account_answers}
use Rattle.text.specs.Every.{Every}
use Rattle.amount.specs.Details.{span, valued, Rows, quoted}
use Rattle.text.specs.Refusals.{missing, missing_part}
use Rattle.amount.specs.Expression.{expression}
use Rattle.amount.specs.Amounts.{amount, hard_currency, hard_amount}
use Rattle.amount.specs.declared.detail.Detail.{Detail}
use Rattle.amount.proofs.ExpressionEnds.{expression_reach}
use Rattle.amount.proofs.ValueSizes.{Smalls, expression_small}
use Rattle.row.specs.Details.{spanned, millionths}
use Rattle.content.specs.Contents.{hard_account}
use Rattle.layout.specs.Meaning.{Item, texted, naming}
use Rattle.layout.specs.Written.{value_text, quotes}
use Rattle.layout.proofs.Texts.{at_split, at_between, Tidy}
use Rattle.layout.proofs.Values.{Form, value_form, value_reads}
use Rattle.layout.proofs.Tokens.{Currency, Account, currency_taken, currency_again, account_taken, account_again, string_taken, string_again}
use Rattle.layout.proofs.Neats.{Phrase, neat_part, tidy_at}
use Rattle.layout.proofs.Readings.{item_d, items, Fine, text_item, Reads, none_reads, token_reads, row_reads, must_reads, skip_reads, then_reads, There, span_item, span_fine, TextKind}
use Rattle.layout.proofs.Readings.{maybe_was}
use Rattle.layout.proofs.Marks.{After, calm_currency, currency_blank, gap_reads, reached}

-- ---- accounts

module _ {s : List ℕ} {i : ℕ} where
  -- any account and what it leaves
  pub account_was : {t : List ℕ} {j : ℕ} {rs : List Detail} → At s i t → account s i ≡ To j rs → (rest : List ℕ) × At s j rest × Account (between s i j) × (rs ≡ [])
  account_was {t} {j} {rs} A h =
      let n = account_inv (account_at s i) j rs (sym (account_answers s i) ∙ h) in
      let T = account_taken A n.0 in
      let k = at_split T.word T.rest j (subst (At s i) T.cut A) T.end in
      (T.rest, k.1, subst Account (sym k.0) T.good, n.1)

  pub account_is : (w post : List ℕ) → Account w → After post → At s i (w ++ post) → Reads s (account s i) [] post
  unfolding account_answer
  account_is w post C F A = none_reads (rw (account_answers s i, account_again w post C F.account F.colon A)) (at_next w post A)

abbrev pub IsText : (List ℕ → Type 0) → ℕ → List Item → Type 0
IsText G k ms = (w : List ℕ) × G w × (ms ≡ text_item k w ∷ [])

pub tag_kind_lem : TextKind 23
unfolding texted spanned
tag_kind_lem = (refl, refl)

account_kind_lem : TextKind 25
unfolding texted spanned
account_kind_lem = (refl, refl)

pub currency_kind_lem : TextKind 31
unfolding texted spanned
currency_kind_lem = (refl, refl)

-- the row of a text from i to j
pub one_span : (s : List ℕ) (G : List ℕ → Type 0) (k i j : ℕ) (rs zs : List Detail) → TextKind k → rs ≡ zs → zs ≡ span k i j ∷ [] → G (between s i j)
    → IsText G k (items s rs)
one_span s G k i j rs zs t e f g = (between s i j, g, ap (items s) (e ∙ f) ∙ ap (λ m. m ∷ []) (span_item s k i j t))

pub text_row_lem : {s : List ℕ} (k i j : ℕ) (w post : List ℕ) → TextKind k → At s i (w ++ post) → At s j post → Reads s (To j (span k i j ∷ [])) (text_item k w ∷ []) post
text_row_lem {s} k i j w post K A B = row_reads (span_item s k i j K ∙ ap (text_item k) (at_between w post A B)) (span_fine s k i j) B

-- a token that must stand, and its row
module _ {s : List ℕ} (i k : ℕ) (K : TextKind k) (x : Rows) where
  must_was : (G : List ℕ → Type 0) → ((j : ℕ) (rs : List Detail) → x ≡ To j rs → (rest : List ℕ) × At s j rest × G (between s i j) × (rs ≡ [])) → (j : ℕ) (rs : List Detail)
      → (must missing i x and λ e. To e (span k i e ∷ [])) ≡ To j rs → There s j rs (IsText G k)
  must_was G was j rs h =
      let a = and_inv (must missing i x) _ j rs h in
      let b = was a.0 a.1 (must_inv missing i x a.0 a.1 a.3) in
      let c = to_inv a.0 j _ a.2 a.4 in
      record {
        rest = b.0;
        place = subst (λ z. At s z b.0) c.0 b.1;
        is = one_span s G k i j rs a.2 K (a.5 ∙ ap (λ z. z ++ a.2) b.3) (c.1 ∙ ap (λ z. span k i z ∷ []) c.0) (subst (λ z. G (between s i z)) c.0 b.2);
      }

  must_is : (w post : List ℕ) → Reads s x [] post → At s i (w ++ post) → Reads s (must missing i x and λ e. To e (span k i e ∷ [])) (text_item k w ∷ []) post
  must_is w post R A = skip_reads (must_reads missing i R) (λ j B. text_row_lem k i j w post K A B)

module _ {s : List ℕ} {i : ℕ} where
  pub hard_account_was : {t : List ℕ} {j : ℕ} {rs : List Detail} → At s i t → hard_account s i ≡ To j rs → There s j rs (IsText Account 25)
  unfolding hard_account
  hard_account_was {t} {j} {rs} A h = must_was i 25 account_kind_lem (account s i) Account (λ j rs e. account_was A e) j rs h

  pub hard_account_is : (w post : List ℕ) → Account w → After post → At s i (w ++ post) → Reads s (hard_account s i) (text_item 25 w ∷ []) post
  unfolding hard_account
  hard_account_is w post C F A = must_is i 25 account_kind_lem (account s i) w post (account_is w post C F A) A

  -- ---- currencies

  pub currency_was : {t : List ℕ} {j : ℕ} {rs : List Detail} → At s i t → currency s i ≡ To j rs → (rest : List ℕ) × At s j rest × Currency (between s i j) × (rs ≡ [])
  unfolding currency
  currency_was {t} {j} {rs} A h =
      let n = token_inv (currency_at s i) j rs h in
      let T = currency_taken A n.0 in
      let k = at_split T.word T.rest j (subst (At s i) T.cut A) T.end in
      (T.rest, k.1, subst Currency (sym k.0) T.good, n.1)

  pub currency_is : (w post : List ℕ) → Currency w → After post → At s i (w ++ post) → Reads s (currency s i) [] post
  unfolding currency
  currency_is w post C F A = token_reads (currency_again w post C F.currency A) (at_next w post A)

  pub hard_currency_was : {t : List ℕ} {j : ℕ} {rs : List Detail} → At s i t → hard_currency s i ≡ To j rs → There s j rs (IsText Currency 31)
  unfolding hard_currency
  hard_currency_was {t} {j} {rs} A h = must_was i 31 currency_kind_lem (currency s i) Currency (λ j rs e. currency_was A e) j rs h

  pub hard_currency_is : (w post : List ℕ) → Currency w → After post → At s i (w ++ post) → Reads s (hard_currency s i) (text_item 31 w ∷ []) post
  unfolding hard_currency
  hard_currency_is w post C F A = must_is i 31 currency_kind_lem (currency s i) w post (currency_is w post C F A) A

  -- ---- strings

  -- a string from i to j: its content, which i + 1 to j - 1 is
  pub string_was : {t : List ℕ} {j : ℕ} {rs : List Detail} → Tidy s → At s i t → string s i ≡ To j rs → (rest : List ℕ) × At s j rest × Phrase (between s (i + 1) (j - 1)) × (rs ≡ [])
  unfolding string
  string_was {t} {j} {rs} T A h =
      let n = token_inv (string_at s i) j rs h in
      let S = string_taken A n.0 in
      let xs = S.2.xs in
      let ys = S.2.ys in
      let B : At s (i + 1) (xs ++ (34 ∷ ys)) = subst (At s (i + 1)) S.2.cut (at_one (subst (At s i) S.1 A)) in
      let e = S.2.end in
      let l : j - 1 ≡ i + 1 + length xs = omega arith in
      let k = at_split xs (34 ∷ ys) (j - 1) B l in
      let f : j - 1 + 1 ≡ j = omega arith in
      let N = neat_part xs 34 ys (λ e. absurd (omega arith)) (tidy_at T B) in
      (ys, subst (λ z. At s z ys) f (at_one k.1), subst Phrase (sym k.0) (record { content = S.2.good; neat = N }), n.1)

  pub string_is : (w post : List ℕ) → Phrase w → At s i (quotes w ++ post) → Reads s (string s i) [] post
  unfolding string quotes
  string_is w post C A =
      let B : At s i (34 ∷ (w ++ (34 ∷ post))) = subst (λ z. At s i (34 ∷ z)) (append_assoc w (34 ∷ []) post) A in
      let D = at_one (at_next w (34 ∷ post) (at_one B)) in
      token_reads (string_again w post C.content B) D

  -- with its row
  pub quoted_was : (k : ℕ) → TextKind k → {t : List ℕ} {j : ℕ} {rs : List Detail} → Tidy s → At s i t → quoted (span k) s i ≡ To j rs → There s j rs (IsText Phrase k)
  unfolding quoted
  quoted_was k K {t} {j} {rs} T A h =
      let a = and_inv (string s i) _ j rs h in
      let b = string_was T A a.3 in
      let c = to_inv a.0 j _ a.2 a.4 in
      record {
        rest = b.0;
        place = subst (λ z. At s z b.0) c.0 b.1;
        is =
            one_span s Phrase k (i + 1) (j - 1) rs a.2 K (a.5 ∙ ap (λ z. z ++ a.2) b.3) (c.1 ∙ ap (λ z. span k (i + 1) (z - 1) ∷ []) c.0)
            (subst (λ z. Phrase (between s (i + 1) (z - 1))) c.0 b.2);
      }

  pub quoted_is : (k : ℕ) → TextKind k → (w post : List ℕ) → Phrase w → At s i (quotes w ++ post) → Reads s (quoted (span k) s i) (text_item k w ∷ []) post
  unfolding quoted quotes
  quoted_is k K w post C A =
      skip_reads (string_is w post C A) (λ j D.
      let B : At s i (34 ∷ (w ++ (34 ∷ post))) = subst (λ z. At s i (34 ∷ z)) (append_assoc w (34 ∷ []) post) A in
      let p : j ≡ i + length (34 ∷ (w ++ (34 ∷ []))) = at_place (34 ∷ (w ++ (34 ∷ []))) post A D in
      let e : j - 1 ≡ i + 1 + length w = omega (arith, length-append w (34 ∷ [])) in
      row_reads (span_item s k (i + 1) (j - 1) K ∙ ap (text_item k) (at_split w (34 ∷ post) (j - 1) (at_one B) e).0) (span_fine s k (i + 1) (j - 1)) D)

-- ---- gaps

gap_empty : (s : List ℕ) (i j : ℕ) (rs : List Detail) → gap s i ≡ To j rs → rs ≡ []
unfolding gap
gap_empty s i j rs h = (token_inv (gap_at s i) j rs h).1

module _ {s : List ℕ} {i : ℕ} where
  pub gap_was : {t : List ℕ} {j : ℕ} {rs : List Detail} → At s i t → gap s i ≡ To j rs → (rs ≡ []) × At s j (drop j s)
  gap_was {t} {j} {rs} A h = (gap_empty s i j rs h, reached (gap_reach s i (at_in A)) h)

  pub hard_gap_was : (n : Cause) {t : List ℕ} {j : ℕ} {rs : List Detail} → At s i t → hard_gap n s i ≡ To j rs → (rs ≡ []) × At s j (drop j s)
  unfolding hard_gap
  hard_gap_was n {t} {j} {rs} A h = gap_was A (must_inv n i (gap s i) j rs h)

  pub hard_gap_is : (n : Cause) {t : List ℕ} → is_blank (get_or t 0 0) ≡ false → At s i (32 ∷ t) → Reads s (hard_gap n s i) [] t
  unfolding hard_gap
  hard_gap_is n e A = must_reads n i (gap_reads e A)

-- what may be missing, after a gap
pub maybe_gap_was : {s t : List ℕ} (G : List Item → Type 0) (i j : ℕ) (R : ℕ → Rows) (rs : List Detail) → G [] → At s i t → maybe i (gap s i and R) ≡ To j rs
    → ((g : ℕ) (u : List ℕ) (ys : List Detail) → At s g u → R g ≡ To j ys → rs ≡ ys → There s j ys G) → There s j rs G
maybe_gap_was {s} G i j R rs none A h r = maybe_was G i j (gap s i and R) rs none A h (λ h.
    let a = and_inv (gap s i) R j rs h in
    let B = gap_was A a.3 in
    let e = a.5 ∙ ap (λ z. z ++ a.2) B.0 in
    let U = r a.0 _ a.2 B.1 a.4 e in
    record { rest = U.rest; place = U.place; is = subst (λ z. G (items s z)) (sym e) U.is })

-- ---- amounts

abbrev pub sum_item : ℕ → ℕ → List ℕ → Item
sum_item k v c = record { kind = k; text = []; other = c; number = 0; bits = v }

abbrev pub IsSum : ℕ → List Item → Type 0
IsSum k ms = (v : ℕ) × (c : List ℕ) × Form v × Currency c × (ms ≡ sum_item k v c ∷ [])

-- the kinds of amounts
abbrev pub SumKind : ℕ → Type 0
SumKind k = (texted k ≡ false) × (spanned k ≡ true) × (naming k ≡ true)

pub amount_kind_lem : SumKind 26
unfolding texted spanned naming
amount_kind_lem = (refl, refl, refl)

pub price_kind_lem : SumKind 29
unfolding texted spanned naming
price_kind_lem = (refl, refl, refl)

pub total_kind : SumKind 30
unfolding texted spanned naming
total_kind = (refl, refl, refl)

valued_item : (s : List ℕ) (k a e p q : ℕ) (x : Decimal) → SumKind k → item_d s (valued k a e p q (Ok x)) ≡ sum_item k (twos_of (whole_of x)) (between s p q)
unfolding millionths
valued_item s k a e p q x K = rw (K.0, K.1, K.2)

-- the value of an expression that was read
pub value_was : (s : List ℕ) (i e : ℕ) (v : Value) (x : Decimal) → expression s i ≡ To e v → v ≡ Ok x → Form (twos_of (whole_of x))
value_was s i e v x h f = let S = subst Smalls (h ∙ ap (To e) f) (expression_small s i) in value_form x.minus x.size S.holds.holds

module _ {s : List ℕ} {i : ℕ} (k : ℕ) (K : SumKind k) where
  pub amount_was : {t : List ℕ} {j : ℕ} {rs : List Detail} → At s i t → amount k s i ≡ To j rs → Every Fine rs → There s j rs (IsSum k)
  unfolding amount
  amount_was {t} {j} {rs} A h f =
      let a = then_inv (expression s i) _ j rs h in
      let b = and_inv (gap s a.0) _ j rs a.3 in
      let c = and_inv (currency s b.0) _ j b.2 b.4 in
      let B = reached (expression_reach s i) a.2 in
      let G = gap_was B b.3 in
      let C = currency_was G.1 c.3 in
      let d = to_inv c.0 j _ c.2 c.4 in
      made a.0 b.0 a.1 C.0 (subst (λ z. At s z C.0) d.0 C.1) (subst (λ z. Currency (between s b.0 z)) d.0 C.2) a.2 rs
      (b.5 ∙ ap (λ z. z ++ b.2) G.0 ∙ c.5 ∙ ap (λ z. z ++ c.2) C.3 ∙ d.1 ∙ ap (λ z. valued k i a.0 b.0 z a.1 ∷ []) d.0) f
    where
      made : (e g : ℕ) (v : Value) (rest : List ℕ) → At s j rest → Currency (between s g j) → expression s i ≡ To e v → (zs : List Detail) → zs ≡ valued k i e g j v ∷ [] → Every Fine zs
          → There s j zs (IsSum k)
      made e g v rest D C h zs q f =
          let x = (subst (Every Fine) q f).0 in
          record {
            rest = rest;
            place = D;
            is = (
              twos_of (whole_of x.0),
              between s g j,
              value_was s i e v x.0 h x.1,
              C,
              ap (items s) (q ∙ ap (λ z. valued k i e g j z ∷ []) x.1) ∙ ap (λ m. m ∷ [])
                  (valued_item s k i e g j x.0 K),
            );
          }

  pub amount_is : (v : ℕ) (c post : List ℕ) → Form v → Currency c → After post → At s i ((value_text v ++ (32 ∷ c)) ++ post) → Reads s (amount k s i) (sum_item k v c ∷ []) post
  unfolding amount
  amount_is v c post F C P A =
      let B : At s i (value_text v ++ (32 ∷ (c ++ post))) = at_more (value_text v) (32 ∷ c) post A in
      let D : At s (i + length (value_text v)) (32 ∷ (c ++ post)) = at_next (value_text v) (32 ∷ (c ++ post)) B in
      then_reads _ (value_reads s v F (32 ∷ (c ++ post)) (calm_currency c post C) i B)
      (skip_reads (gap_reads (currency_blank c post C) D)
      (λ g G. skip_reads (currency_is c post C P G)
      (λ d E. row_reads (valued_item s k i _ g d (decimal_of F.minus F.size) K ∙ ap (λ z. sum_item k z (between s g d)) F.bits ∙ ap (sum_item k v) (at_between c post G E))
      (decimal_of F.minus F.size, refl) E)))

-- the same where each part is required
module _ (s : List ℕ) (i k : ℕ) where
  hard_soft : {j : ℕ} {rs : List Detail} → hard_amount k s i ≡ To j rs → amount k s i ≡ To j rs
  unfolding hard_amount amount hard_gap ◌then◌ ◌and◌ more
  hard_soft {j} {rs} h =
      let a = then_inv (must missing i (expression s i)) _ j rs h in
      let b = and_inv (must missing a.0 (gap s a.0)) _ j rs a.3 in
      let c = and_inv (must missing b.0 (currency s b.0)) _ j b.2 b.4 in
      rw (must_inv missing i (expression s i) a.0 a.1 a.2, must_inv missing a.0 (gap s a.0) b.0 b.1 b.3, must_inv missing b.0 (currency s b.0) c.0 c.1 c.3)
      (ap (more b.1) (ap (more c.1) c.4) ∙ ap (To j) (ap (λ z. b.1 ++ z) (sym c.5) ∙ sym b.5))

  soft_hard : {j : ℕ} {rs : List Detail} → amount k s i ≡ To j rs → hard_amount k s i ≡ To j rs
  unfolding hard_amount amount hard_gap must ◌then◌ ◌and◌ more
  soft_hard {j} {rs} h =
      let a = then_inv (expression s i) _ j rs h in
      let b = and_inv (gap s a.0) _ j rs a.3 in
      let c = and_inv (currency s b.0) _ j b.2 b.4 in
      rw (a.2, b.3, c.3) (ap (more b.1) (ap (more c.1) c.4) ∙ ap (To j) (ap (λ z. b.1 ++ z) (sym c.5) ∙ sym b.5))

  pub hard_amount_was : SumKind k → {t : List ℕ} {j : ℕ} {rs : List Detail} → At s i t → hard_amount k s i ≡ To j rs → Every Fine rs → There s j rs (IsSum k)
  hard_amount_was K A h f = amount_was k K A (hard_soft h) f

  pub hard_amount_is : SumKind k → (v : ℕ) (c post : List ℕ) → Form v → Currency c → After post → At s i ((value_text v ++ (32 ∷ c)) ++ post) → Reads s (hard_amount k s i) (sum_item k v c ∷ []) post
  hard_amount_is K v c post F C P A =
      let R = amount_is k K v c post F C P A in
      record { to = R.to; rows = R.rows; eq = soft_hard R.eq; rest = R.rest; same = R.same; fine = R.fine }

pub hard_gap_empty : (n : Cause) (s : List ℕ) (i j : ℕ) (rs : List Detail) → hard_gap n s i ≡ To j rs → rs ≡ []
unfolding hard_gap
hard_gap_empty n s i j rs h = gap_empty s i j rs (must_inv n i (gap s i) j rs h)

pub currency_empty : (s : List ℕ) (i j : ℕ) (rs : List Detail) → currency s i ≡ To j rs → rs ≡ []
unfolding currency
currency_empty s i j rs h = (token_inv (currency_at s i) j rs h).1
