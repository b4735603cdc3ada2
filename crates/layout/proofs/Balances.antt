-- A balance: what was read is written so that it reads again.
use Rattle.decimal.specs.Faults.{Value}
use Rattle.std.specs.Prelude.{Ok}
use Prim.Native.Nat.{ℕ, ◌+◌}
use native.Mathlib.Omega.{arith}
use mathlib.Core.Path.{◌≡◌, refl, sym, ◌∙◌, ap, subst}
use mathlib.Core.Bool.{Bool, true, false, cond}
use mathlib.Core.List.{List, [], ◌∷◌, ◌++◌, append_assoc}
use mathlib.Core.Logic.{◌⊎◌, inl, inr}
use borrow.Author.Tests.{ne_eqb}
use lib.Dec.{eqb}
use lib.ListN.{length, get_or, drop}
use Rattle.decimal.specs.Exact.{whole_of, twos_of, decimal_of}
use Rattle.decimal.specs.declared.Decimal.{Decimal}
use Rattle.text.specs.Bytes.{is_blank, bytes, is_capital, between}
use Rattle.text.specs.Run.{blanks}
use Rattle.text.specs.Answer.{To, Miss, ◌then◌, ◌and◌, must, maybe}
use Rattle.text.specs.Leaves.{hard_gap, byte, currency}
use Rattle.text.proofs.Ats.{At, at_next, at_one, at_byte, at_more}
use Rattle.text.proofs.Inversions.{and_inv, must_inv, then_inv, maybe_inv, to_inv, not_miss}
use Rattle.text.proofs.TestLaws.{differ}
use Rattle.text.specs.Every.{Every}
use Rattle.text.proofs.EveryLaws.{every_right}
use Rattle.text.specs.Refusals.{missing}
use Rattle.amount.specs.Details.{valued}
use Rattle.amount.specs.Expression.{expression}
use Rattle.amount.specs.declared.detail.Detail.{Detail}
use Rattle.amount.proofs.ExpressionEnds.{expression_reach}
use Rattle.row.specs.Details.{spanned, millionths}
use Rattle.content.specs.Contents.{hard_account, balance_of, tolerance}
use Rattle.layout.specs.Meaning.{Item, texted, naming}
use Rattle.layout.specs.Written.{value_text, sum_text, amount_text, detail_text, kind_of, printed}
use Rattle.layout.proofs.Texts.{at_between}
use Rattle.layout.proofs.Values.{Form, value_reads, one_space, shown}
use Rattle.layout.proofs.Tokens.{Currency, Account}
use Rattle.layout.proofs.Neats.{Neat, neat_join, neat_cons, neat_space, free_range, neat_account, neat_currency, neat_value}
use Rattle.layout.proofs.Readings.{item_d, items, items_append, Fine, text_item, Reads, row_reads, must_reads, skip_reads, and_reads, then_reads, maybe_reads, maybe_none, There}
use Rattle.layout.proofs.Readings.{there_map}
use Rattle.layout.proofs.Marks.{After, after_space, after_line, calm_currency, calm_tilde, currency_blank, account_blank, reached, byte_reads}
use Rattle.layout.proofs.Parts.{IsText, sum_item, hard_account_was, hard_account_is, hard_gap_was, hard_gap_is, value_was, currency_was, currency_is, hard_gap_empty, currency_empty}
use Rattle.layout.proofs.Bodies.{Anew, Was, again_is, print_detail, print_account, print_sum, value_blank}

-- ---- the tolerance

abbrev pub tol_item : ℕ → Item
tol_item v = record { kind = 27; text = []; other = []; number = 0; bits = v }

-- none or one
pub data Tolerance : List Item → Type 0 where
  exact : Tolerance []
  within : (v : ℕ) → Form v → Tolerance (tol_item v ∷ [])

tol_item_lem : (s : List ℕ) (b e : ℕ) (x : Decimal) → item_d s (valued 27 b e 0 0 (Ok x)) ≡ tol_item (twos_of (whole_of x))
unfolding texted naming spanned millionths
tol_item_lem s b e x = refl

pub byte_empty : (b : ℕ) (s : List ℕ) (i j : ℕ) (rs : List Detail) → byte b s i ≡ To j rs → rs ≡ []
unfolding byte
byte_empty b s i j rs h = go (eqb (get_or s i 0) b) h
  where
    go : (c : Bool) → cond c (To (i + 1) []) Miss ≡ To j rs → rs ≡ []
    go true h = cc
    go false h = not_miss h

module _ (s : List ℕ) (e j : ℕ) (ts : List Detail) (f : Every Fine ts) where
  tolerance_was : tolerance s e ≡ To j ts → At s j (drop j s) × Tolerance (items s ts)
  unfolding tolerance
  tolerance_was h =
      let a = and_inv (byte 126 s (blanks s e)) _ j ts h in
      let b = then_inv (expression s (blanks s a.0)) _ j a.2 a.4 in
      let c = to_inv b.0 j _ a.2 b.3 in
      made (blanks s a.0) b.1 (b.2 ∙ ap (λ z. To z b.1) c.0) ts
      (a.5 ∙ ap (λ z. z ++ a.2) (byte_empty 126 s (blanks s e) a.0 a.1 a.3) ∙ c.1 ∙ ap (λ z. valued 27 (blanks s a.0) z 0 0 b.1 ∷ []) c.0) f
    where
      made : (b : ℕ) (v : Value) → expression s b ≡ To j v → (zs : List Detail) → zs ≡ valued 27 b j 0 0 v ∷ [] → Every Fine zs → At s j (drop j s) × Tolerance (items s zs)
      made b v h zs q f =
          let x = (subst (Every Fine) q f).0 in (
            reached (expression_reach s b) h,
            subst Tolerance (sym (ap (items s) (q ∙ ap (λ z. valued 27 b j 0 0 z ∷ []) x.1) ∙ ap (λ m. m ∷ []) (tol_item_lem s b j x.0)))
                (within (twos_of (whole_of x.0)) (value_was s b j v x.0 h x.1)),
          )

  maybe_tolerance_was : {t : List ℕ} → At s e t → maybe e (tolerance s e) ≡ To j ts → (rest : List ℕ) × At s j rest × Tolerance (items s ts)
  maybe_tolerance_was {t} A h = go (maybe_inv e (tolerance s e) j ts h)
    where
      go : (tolerance s e ≡ To j ts) ⊎ ((tolerance s e ≡ Miss) × (j ≡ e) × (ts ≡ [])) → (rest : List ℕ) × At s j rest × Tolerance (items s ts)
      go (inl h) = let a = tolerance_was h in (drop j s, a.0, a.1)
      go (inr h) = (t, subst (λ z. At s z t) (sym h.1) A, subst (λ z. Tolerance (items s z)) (sym h.2) exact)

-- ---- the balance

pub record Balance (ms : List Item) : Type 0 where
  pub account : List ℕ
  pub value : ℕ
  pub currency : List ℕ
  pub tol : List Item
  pub good_account : Account account
  pub good_value : Form value
  pub good_currency : Currency currency
  pub good_tol : Tolerance tol
  pub is : ms ≡ text_item 25 account ∷ sum_item 26 value currency ∷ tol

sum_item_lem : (s : List ℕ) (a e p q : ℕ) (x : Decimal) → item_d s (valued 26 a e p q (Ok x)) ≡ sum_item 26 (twos_of (whole_of x)) (between s p q)
unfolding texted naming spanned millionths
sum_item_lem s a e p q x = refl

balance_was : Was balance_of Balance
unfolding balance_of
balance_was s i j t rs T A h f =
    let a = and_inv (hard_account s i) _ j rs h in
    let b = and_inv (hard_gap missing s a.0) _ j a.2 a.4 in
    let c = then_inv (must missing b.0 (expression s b.0)) _ j b.2 b.4 in
    let d = then_inv (maybe c.0 (tolerance s c.0)) _ j b.2 c.3 in
    let e = and_inv (hard_gap missing s d.0) _ j b.2 d.3 in
    let k = and_inv (must missing e.0 (currency s e.0)) _ j e.2 e.4 in
    let l = to_inv k.0 j _ k.2 k.4 in
    let g = subst (Every Fine) a.5 f in
    let H = hard_account_was A a.3 in
    let B = hard_gap_was missing H.place b.3 in
    let x = must_inv missing b.0 (expression s b.0) c.0 c.1 c.2 in
    let X = reached (expression_reach s b.0) x in
    let p = b.5 ∙ ap (λ z. z ++ b.2) B.0 in
    let Y = hard_gap_empty missing s d.0 e.0 e.1 e.3 in
    let q = e.5 ∙ ap (λ z. z ++ e.2) Y in
    let cu = must_inv missing e.0 (currency s e.0) k.0 k.1 k.3 in
    let w = k.5 ∙ ap (λ z. z ++ k.2) (currency_empty s e.0 k.0 k.1 cu) ∙ l.1 ∙ ap (λ z. valued 26 b.0 c.0 e.0 z c.1 ∷ d.1) l.0 in
    built s j b.0 c.0 e.0 d.0 a.1 a.2 d.1 c.1 H.is x X d.2 e.3 (subst (λ z. currency s e.0 ≡ To z k.1) l.0 cu)
    (p ∙ q ∙ w) rs a.5 (every_right Fine a.1 a.2 g)
  where
    built : (s : List ℕ) (j g e c u : ℕ) (fs bs ts : List Detail) (v : Value) → IsText Account 25 (items s fs) → expression s g ≡ To e v → At s e (drop e s)
        → maybe e (tolerance s e) ≡ To u ts → {zs : List Detail} → hard_gap missing s u ≡ To c zs → {ws : List Detail} → currency s c ≡ To j ws → bs ≡ valued 26 g e c j v ∷ ts
        → (rs : List Detail) → rs ≡ fs ++ bs → Every Fine bs → There s j rs Balance
    built s j g e c u fs bs ts v a x X m hg hc q rs r f =
        let y = subst (Every Fine) q f in
        let z = y.0 in
        let M = maybe_tolerance_was s e u ts y.1 X m in
        let G = hard_gap_was missing M.1 hg in
        let C = currency_was G.1 hc in
        record {
          rest = C.0;
          place = C.1;
          is = record {
            account = a.0;
            value = twos_of (whole_of z.0);
            currency = between s c j;
            tol = items s ts;
            good_account = a.1;
            good_value = value_was s g e v z.0 x z.1;
            good_currency = C.2;
            good_tol = M.2;
            is =
                ap (items s) (r ∙ ap (λ z. fs ++ z) (q ∙ ap (λ w. valued 26 g e c j w ∷ ts) z.1)) ∙ items_append s fs _
                ∙ ap (λ m. m ++ items s (valued 26 g e c j (Ok z.0) ∷ ts)) a.2 ∙ ap (λ m. text_item 25 a.0 ∷ m ∷ items s ts) (sum_item_lem s g e c j z.0);
          };
        }

-- ---- again

capital_tilde : (b : ℕ) → is_capital b ≡ true → eqb b 126 ≡ false
unfolding is_capital
capital_tilde b e = ne_eqb b 126 (differ is_capital b 126 e refl)

module _ (s : List ℕ) (w : List ℕ) (C : Currency w) (post : List ℕ) where
  -- no tolerance before a currency
  no_tolerance : (e : ℕ) → At s e (32 ∷ (w ++ post)) → tolerance s e ≡ Miss
  unfolding tolerance byte ◌and◌
  no_tolerance e A =
      let r = one_space s e A (currency_blank w post C) in
      let b : get_or s (e + 1) 0 ≡ C.head = at_byte (at_one A) ∙ ap (λ z. get_or (z ++ post) 0 0) C.is in
      rw (r, b, capital_tilde C.head C.capital)

  a_tolerance : (e x : ℕ) → Form x → At s e (32 ∷ 126 ∷ 32 ∷ (value_text x ++ (32 ∷ (w ++ post)))) → Reads s (tolerance s e) (tol_item x ∷ []) (32 ∷ (w ++ post))
  unfolding tolerance
  a_tolerance e x F A =
      let t = value_text x ++ (32 ∷ (w ++ post)) in
      let B = at_one A in
      let r = one_space s e A (shown 126 (omega arith)) in
      rw r (skip_reads (byte_reads B) (λ i D.
      let q = one_space s i D (value_blank x (32 ∷ (w ++ post)) F) in
      rw q (then_reads _ (value_reads s x F (32 ∷ (w ++ post)) (calm_currency w post C) (i + 1) (at_one D))
      (row_reads (tol_item_lem s (i + 1) _ (decimal_of F.minus F.size) ∙ ap tol_item F.bits) (decimal_of F.minus F.size, refl) (at_next (value_text x) (32 ∷ (w ++ post)) (at_one D))))))

-- value, tolerance, currency: after the value
module _ (s : List ℕ) (w : List ℕ) (C : Currency w) (post : List ℕ) (F : After post) (v : ℕ) (W : Form v) (g e : ℕ) where
  abbrev x : Decimal
  x = decimal_of W.minus W.size

  tail_is : (ts : List Item) → expression s g ≡ To e (Ok x) → Reads s (maybe e (tolerance s e)) ts (32 ∷ (w ++ post))
      → Reads s (must missing g (expression s g) then λ e v. maybe e (tolerance s e) then λ t us. hard_gap missing s t and λ c. must missing c (currency s c) and λ d. To d (valued 26 g e c d v ∷ us))
      (sum_item 26 v w ∷ ts) post
  unfolding must
  tail_is ts E R =
      then_reads _ {x = Ok x} (rw E) (then_reads _ R.eq (skip_reads (hard_gap_is missing (currency_blank w post C) R.rest) (λ c G.
      skip_reads (must_reads missing c (currency_is w post C F G)) (λ d D. record {
        to = d;
        rows = valued 26 g e c d (Ok x) ∷ R.rows;
        eq = refl;
        rest = D;
        same =
            ap (λ m. m ∷ items s R.rows) (sum_item_lem s g e c d x ∙ ap (λ z. sum_item 26 z (between s c d)) W.bits ∙ ap (sum_item 26 v) (at_between w post G D))
            ∙ ap (λ z. sum_item 26 v w ∷ z) R.same;
        fine = ((x, refl), R.fine);
      }))))

-- a balance's text after its account
module _ (w : List ℕ) (C : Currency w) (v : ℕ) (W : Form v) where
  tail_text : (ts : List Item) → Tolerance ts → List ℕ
  tail_text ts exact = value_text v ++ (32 ∷ w)
  tail_text ts (within y F) = value_text v ++ (32 ∷ 126 ∷ 32 ∷ (value_text y ++ (32 ∷ w)))

  tail_neat : (ts : List Item) (T : Tolerance ts) → Neat (tail_text ts T)
  unfolding tail_text
  tail_neat ts exact = neat_join (value_text v) (32 ∷ w) (neat_value v W) (neat_space w (neat_currency w C))
  tail_neat ts (within y F) =
      neat_join (value_text v) _ (neat_value v W) (neat_space _ (neat_cons 126 _ (free_range 126 (omega arith) (omega arith))
      (neat_space _ (neat_join (value_text y) (32 ∷ w) (neat_value y F) (neat_space w (neat_currency w C))))))

  tail_blank : (ts : List Item) (T : Tolerance ts) (x : List ℕ) → is_blank (get_or (tail_text ts T ++ x) 0 0) ≡ false
  unfolding tail_text
  tail_blank ts exact x = rw (append_assoc (value_text v) (32 ∷ w) x) (value_blank v _ W)
  tail_blank ts (within y F) x = rw (append_assoc (value_text v) (32 ∷ 126 ∷ 32 ∷ (value_text y ++ (32 ∷ w))) x) (value_blank v _ W)

  tail_last : (ts : List Item) → Tolerance ts → Item
  tail_last ts exact = sum_item 26 v w
  tail_last ts (within y F) = tol_item y

  tail_reads : (ts : List Item) (T : Tolerance ts) (s : List ℕ) (g : ℕ) (post : List ℕ) → After post → At s g (tail_text ts T ++ post)
      → Reads s (must missing g (expression s g) then λ e v. maybe e (tolerance s e) then λ t us. hard_gap missing s t and λ c. must missing c (currency s c) and λ d. To d (valued 26 g e c d v ∷ us))
      (sum_item 26 v w ∷ ts) post
  unfolding tail_text
  tail_reads ts exact s g post F A =
      let t : List ℕ = 32 ∷ (w ++ post) in
      let B : At s g (value_text v ++ t) = at_more (value_text v) (32 ∷ w) post A in
      let e = g + length (value_text v) in
      let D : At s e t = at_next (value_text v) t B in
      tail_is s w C post F v W g e [] (value_reads s v W t (calm_currency w post C) g B) (maybe_none (no_tolerance s w C post e D) D)
  tail_reads ts (within x X) s g post F A =
      let u : List ℕ = 32 ∷ (w ++ post) in
      let t : List ℕ = 32 ∷ 126 ∷ 32 ∷ (value_text x ++ u) in
      let p : tail_text ts (within x X) ++ post ≡ value_text v ++ t =
      append_assoc (value_text v) (32 ∷ 126 ∷ 32 ∷ (value_text x ++ (32 ∷ w))) post ∙ ap (λ z. value_text v ++ (32 ∷ 126 ∷ 32 ∷ z)) (append_assoc (value_text x) (32 ∷ w) post) in
      let B : At s g (value_text v ++ t) = subst (At s g) p A in
      let e = g + length (value_text v) in
      let D : At s e t = at_next (value_text v) t B in
      tail_is s w C post F v W g e (tol_item x ∷ []) (value_reads s v W t (calm_tilde (32 ∷ (value_text x ++ u))) g B) (maybe_reads e (a_tolerance s w C post e x X D))

  tail_prints : (ts : List Item) (T : Tolerance ts) (k : ℕ) (prev : Item) (ds : List Item) → eqb prev.kind 28 ≡ false → eqb (kind_of ds) 27 ≡ false
      → printed k prev (sum_item 26 v w ∷ (ts ++ ds)) ≡ 32 ∷ (tail_text ts T ++ printed k (tail_last ts T) ds)
  unfolding tail_text tail_last detail_text amount_text sum_text bytes
  tail_prints ts exact k prev ds e f = print_sum k prev ds v w e f
  tail_prints ts (within y Y) k prev ds e f =
      let rest : List ℕ = printed k (tol_item y) ds in
      print_detail k prev (sum_item 26 v w) (tol_item y ∷ ds) refl
      ∙ rw e (ap (λ z. 32 ∷ (value_text v ++ z)) (print_detail k (sum_item 26 v w) (tol_item y) ds refl)
      ∙ ap (λ z. 32 ∷ z) (sym (append_assoc (value_text v) (32 ∷ 126 ∷ 32 ∷ (value_text y ++ (32 ∷ w))) rest)))

-- Balance.
pub balance_anew : Anew balance_of
unfolding balance_of
balance_anew s i j t rs T A h f = there_map (λ ks B.
    let w = B.account in
    let T = B.good_tol in
    let u = tail_text B.currency B.good_currency B.value B.good_value B.tol T in
    let ms = sum_item 26 B.value B.currency ∷ B.tol in
    again_is B.is (record {
      text = w ++ (32 ∷ u);
      last = tail_last B.currency B.good_currency B.value B.good_value B.tol T;
      neat = neat_join w (32 ∷ u) (neat_account w B.good_account) (neat_space u (tail_neat B.currency B.good_currency B.value B.good_value B.tol T));
      starts = λ x. rw (append_assoc w (32 ∷ u) x) (account_blank w (32 ∷ (u ++ x)) B.good_account);
      reads = λ s i x A.
          and_reads (text_item 25 w ∷ []) ms (hard_account_is w (32 ∷ (u ++ (10 ∷ x))) B.good_account (after_space _) (at_more w (32 ∷ u) (10 ∷ x) A)) (λ a D.
          skip_reads (hard_gap_is missing (tail_blank B.currency B.good_currency B.value B.good_value B.tol T (10 ∷ x)) D) (λ g G.
          tail_reads B.currency B.good_currency B.value B.good_value B.tol T s g (10 ∷ x) (after_line x) G));
      prints = λ k prev ds e f g.
          print_account k prev (ms ++ ds) w
          ∙ ap (λ z. 32 ∷ (w ++ z)) (tail_prints B.currency B.good_currency B.value B.good_value B.tol T k (text_item 25 w) ds refl g)
          ∙ ap (λ z. 32 ∷ z) (sym (append_assoc w (32 ∷ u) _));
    })) (balance_was s i j t rs T A h f)
