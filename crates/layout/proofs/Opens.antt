-- An open: what was read is written so that it reads again.
use Rattle.std.specs.Prelude.{None, Some}
use Prim.Native.Nat.{ℕ, suc, ◌<◌}
use native.Mathlib.Omega.{arith}
use mathlib.Core.Path.{◌≡◌, refl, sym, ◌∙◌, ap, subst}
use mathlib.Core.Bool.{Bool, true, false, cond}
use mathlib.Core.List.{List, [], ◌∷◌, ◌++◌, append_assoc}
use lib.Dec.{eqb, ltb}
use lib.ListN.{length, get_or, length-append}
use Rattle.text.specs.Bytes.{is_blank, bytes, is_capital, between}
use Rattle.text.specs.Run.{blanks}
use Rattle.text.specs.Answer.{To, Miss, ◌and◌, more, maybe, many}
use Rattle.text.specs.Leaves.{gap, currency, token, comma}
use Rattle.text.specs.Currencies.{currency_at}
use Rattle.text.specs.Lines.{gap_at, comma_at}
use Rattle.text.proofs.Ats.{At}
use Rattle.text.proofs.Inversions.{and_inv, to_inv, token_inv}
use Rattle.text.specs.Every.{Every}
use Rattle.text.proofs.EveryLaws.{every_left, every_right}
use Rattle.amount.specs.Details.{Rows, span, quoted}
use Rattle.amount.specs.declared.detail.Detail.{Detail}
use Rattle.row.specs.Details.{spanned}
use Rattle.text.proofs.TokenEnds.{comma_reach}
use Rattle.content.specs.Contents.{hard_account, one_currency, further, currencies, booking, open_of}
use Rattle.content.proofs.ContentEnds.{further_reach}
use Rattle.layout.specs.Meaning.{Item, texted}
use Rattle.layout.specs.Written.{quotes, detail_text, printed}
use Rattle.layout.proofs.Texts.{Tidy}
use Rattle.layout.proofs.Values.{past_blanks, after_blanks, line_blank}
use Rattle.layout.proofs.Tokens.{Currency, Account}
use Rattle.layout.proofs.Neats.{Phrase, Neat, neat_none, neat_join, neat_cons, neat_space, free_range, neat_account, neat_currency, neat_quotes}
use Rattle.layout.proofs.Readings.{items, items_append, Fine, text_item, Reads, skip_reads, and_reads, maybe_reads, maybe_none, There, none_reads, Loop, done, turn, loop_reads}
use Rattle.layout.proofs.Readings.{TextKind, there_map}
use Rattle.layout.proofs.Marks.{After, after_space, after_line, currency_blank, account_blank, reached, gap_reads, gap_misses, after_comma_lem, comma_is}
use Rattle.layout.proofs.Parts.{IsText, hard_account_was, hard_account_is, quoted_was, quoted_is, currency_was, currency_is, currency_kind_lem, text_row_lem, one_span, maybe_gap_was}
use Rattle.layout.proofs.Bodies.{Again, Anew, Was, again_is, print_detail, print_account, quote_blank}
use Rattle.layout.proofs.Loops.{many_was}

-- ---- one currency

one_currency_was : Was one_currency (IsText Currency 31)
unfolding one_currency
one_currency_was s i j t rs T A h f =
    let a = and_inv (currency s i) _ j rs h in
    let b = currency_was A a.3 in
    let c = to_inv a.0 j _ a.2 a.4 in
    record {
      rest = b.0;
      place = subst (λ z. At s z b.0) c.0 b.1;
      is = one_span s Currency 31 i j rs a.2 currency_kind_lem (a.5 ∙ ap (λ z. z ++ a.2) b.3) (c.1 ∙ ap (λ z. span 31 i z ∷ []) c.0) (subst (λ z. Currency (between s i z)) c.0 b.2);
    }

one_currency_is : {s : List ℕ} {i : ℕ} (w post : List ℕ) → Currency w → After post → At s i (w ++ post) → Reads s (one_currency s i) (text_item 31 w ∷ []) post
unfolding one_currency
one_currency_is {s} {i} w post C F A = skip_reads (currency_is w post C F A) (λ j B. text_row_lem 31 i j w post currency_kind_lem A B)

missed : (s : List ℕ) (i : ℕ) → is_capital (get_or s i 0) ≡ false
    → (token {A = Detail} (Some i) and λ g. one_currency s g and λ e. many (further s) (suc (length s)) e) ≡ Miss
unfolding one_currency currency currency_at token ◌and◌ more
missed s i e = rw e

no_token : (g : ℕ → Rows) → (token {A = Detail} None and g) ≡ Miss
unfolding token ◌and◌
no_token g = refl

-- ---- those that follow

pub data Coins : List Item → Type 0 where
  no_coins : Coins []
  more_coins : (w : List ℕ) {ms : List Item} → Currency w → Coins ms → Coins (text_item 31 w ∷ ms)

coins_text : {ms : List Item} → Coins ms → List ℕ
coins_text no_coins = []
coins_text (more_coins w C N) = 44 ∷ 32 ∷ (w ++ coins_text N)

comma_empty : (s : List ℕ) (i j : ℕ) (rs : List Detail) → comma s i ≡ To j rs → rs ≡ []
unfolding comma
comma_empty s i j rs h = (token_inv (comma_at s i) j rs h).1

further_was : (s : List ℕ) → Tidy s → (i j : ℕ) (t : List ℕ) (rs : List Detail) → Unit {0} → At s i t → further s i ≡ To j rs → Every Fine rs → There s j rs (IsText Currency 31) × Unit {0}
unfolding further
further_was s T i j t rs p A h f =
    let a = and_inv (comma s i) _ j rs h in
    let B = reached {s = s} (comma_reach s i (omega (arith, A.fits))) a.3 in
    let e = a.5 ∙ ap (λ z. z ++ a.2) (comma_empty s i a.0 a.1 a.3) in
    let U = one_currency_was s a.0 j _ a.2 T B a.4 (subst (Every Fine) e f) in
    (record { rest = U.rest; place = U.place; is = subst (λ z. IsText Currency 31 (items s z)) (sym e) U.is }, tt)

join_coins : (ms ns : List Item) → IsText Currency 31 ms → Coins ns → Coins (ms ++ ns)
join_coins ms ns a N = subst (λ z. Coins (z ++ ns)) (sym a.2) (more_coins a.0 a.1 N)

-- what may follow the last
pub record Off (t : List ℕ) : Type 0 where
  pub after : After t
  pub comma : eqb (after_blanks t) 44 ≡ false
  pub capital : is_capital (after_blanks t) ≡ false

further_is : {s : List ℕ} {i : ℕ} (w post : List ℕ) → Currency w → After post → At s i (44 ∷ 32 ∷ (w ++ post)) → Reads s (further s i) (text_item 31 w ∷ []) post
unfolding further
further_is {s} {i} w post C F A =
    let c = comma_is (w ++ post) (currency_blank w post C) A in skip_reads (none_reads c.1 c.2) (λ k D. one_currency_is w post C F D)

further_misses : {s : List ℕ} {i : ℕ} (t : List ℕ) → Off t → At s i t → further s i ≡ Miss
unfolding further comma comma_at token ◌and◌
further_misses {s} {i} t O A = rw (past_blanks s t i A, O.comma)

coins_after : {ms : List Item} (N : Coins ms) (post : List ℕ) → After post → After (coins_text N ++ post)
unfolding coins_text
coins_after no_coins post F = F
coins_after (more_coins w C N) post F = after_comma_lem _

shorter : (w u x : List ℕ) → w ++ u ≡ x → length u < length (44 ∷ 32 ∷ x)
shorter w u x e = omega (arith, length-append w u, ap length e)

coins_loop : (s : List ℕ) {ms : List Item} (N : Coins ms) (post : List ℕ) → Off post → Loop s (further s) post ms (coins_text N ++ post)
unfolding coins_text
coins_loop s no_coins post O = done (λ i A. further_misses post O A)
coins_loop s (more_coins w {ms} C N) post O =
    let u = coins_text N ++ post in
    let e : w ++ u ≡ (w ++ coins_text N) ++ post = sym (append_assoc w (coins_text N) post) in
    turn {ms = text_item 31 w ∷ []} {u = u} (λ i A. further_is w u C (coins_after N post O.after) (subst (λ z. At s i (44 ∷ 32 ∷ z)) (sym e) A))
    (shorter w u ((w ++ coins_text N) ++ post) e) (coins_loop s N post O)

-- ---- all of them, or none

pub data Purse : List Item → Type 0 where
  empty : Purse []
  purse : (w : List ℕ) {ms : List Item} → Currency w → Coins ms → Purse (text_item 31 w ∷ ms)

purse_text : {ms : List Item} → Purse ms → List ℕ
purse_text empty = []
purse_text (purse w C N) = 32 ∷ (w ++ coins_text N)

currencies_was : (s : List ℕ) → Tidy s → (i j : ℕ) (t : List ℕ) (rs : List Detail) → At s i t → currencies s i ≡ To j rs → Every Fine rs → There s j rs Purse
unfolding currencies
currencies_was s T i j t rs A h f =
    let a = and_inv (one_currency s i) _ j rs h in
    let g = subst (Every Fine) a.5 f in
    let O = one_currency_was s i a.0 t a.1 T A a.3 (every_left Fine a.1 a.2 g) in
    let M =
    many_was s (further s) (λ _. Unit {0}) (IsText Currency 31) Coins (further_reach s) (further_was s T) no_coins join_coins (suc (length s)) a.0 j _ a.2 tt O.place
    (omega (arith, O.place.fits)) a.4 (every_right Fine a.1 a.2 g) in
    let o = O.is in
    record {
      rest = M.0.rest;
      place = M.0.place;
      is = subst Purse (sym (ap (items s) a.5 ∙ items_append s a.1 a.2 ∙ ap (λ z. z ++ items s a.2) o.2)) (purse o.0 o.1 M.0.is);
    }

maybe_currencies_was : (s : List ℕ) → Tidy s → (i j : ℕ) (t : List ℕ) (rs : List Detail) → At s i t → maybe i (gap s i and λ g. currencies s g) ≡ To j rs → Every Fine rs → There s j rs Purse
maybe_currencies_was s T i j t rs A h f = maybe_gap_was Purse i j (λ g. currencies s g) rs empty A h (λ g u ys B e p. currencies_was s T g j u ys B e (subst (Every Fine) p f))

-- no currency after the gap, if there is one
no_purse : (s : List ℕ) (i : ℕ) (t : List ℕ) → Off t → At s i t → (gap s i and λ g. currencies s g) ≡ Miss
unfolding gap gap_at currencies
no_purse s i t O A = go (ltb i (blanks s i))
  where
    go : (b : Bool)
        → (token {A = Detail} (cond b (Some (blanks s i)) None) and λ g.
        one_currency s g and λ e. many (further s) (suc (length s)) e) ≡ Miss
    go true = missed s (blanks s i) (rw (past_blanks s t i A) O.capital)
    go false = no_token _

purse_is : {s : List ℕ} {i : ℕ} {ms : List Item} (P : Purse ms) (post : List ℕ) → Off post → At s i (purse_text P ++ post) → Reads s (maybe i (gap s i and λ g. currencies s g)) ms post
unfolding purse_text currencies
purse_is {s} {i} empty post O A = maybe_none (no_purse s i post O A) A
purse_is {s} {i} (purse w {ms} C N) post O A =
    let u = coins_text N ++ post in
    let B : At s i (32 ∷ (w ++ u)) = subst (λ z. At s i (32 ∷ z)) (append_assoc w (coins_text N) post) A in
    maybe_reads i (skip_reads (gap_reads (currency_blank w u C) B) (λ g G.
    and_reads (text_item 31 w ∷ []) ms (one_currency_is w u C (coins_after N post O.after) G) (λ e E. loop_reads (coins_loop s N post O) (suc (length s)) e (omega (arith, E.fits)) E)))

-- ---- the booking

pub data Booking : List Item → Type 0 where
  unbooked : Booking []
  booked : (w : List ℕ) → Phrase w → Booking (text_item 32 w ∷ [])

book_text : {ms : List Item} → Booking ms → List ℕ
book_text unbooked = []
book_text (booked w C) = 32 ∷ quotes w

booking_kind_lem : TextKind 32
unfolding texted spanned
booking_kind_lem = (refl, refl)

booking_was : (s : List ℕ) → Tidy s → (i j : ℕ) (t : List ℕ) (rs : List Detail) → At s i t → maybe i (booking s i) ≡ To j rs → There s j rs Booking
unfolding booking
booking_was s T i j t rs A h = maybe_gap_was Booking i j (λ g. quoted (span 32) s g) rs unbooked A h (λ g u ys B e p.
    there_map (λ ms o. subst Booking (sym o.2) (booked o.0 o.1)) (quoted_was 32 booking_kind_lem T B e))

booking_is : {s : List ℕ} {i : ℕ} {ms : List Item} (B : Booking ms) (t : List ℕ) → At s i (book_text B ++ (10 ∷ t)) → Reads s (maybe i (booking s i)) ms (10 ∷ t)
unfolding book_text booking ◌and◌
booking_is {s} {i} unbooked t A = maybe_none (rw (gap_misses line_blank A)) A
booking_is {s} {i} (booked w C) t A = maybe_reads i (skip_reads (gap_reads (quote_blank w (10 ∷ t)) A) (λ g G. quoted_is 32 booking_kind_lem w (10 ∷ t) C G))

book_off : {ms : List Item} (B : Booking ms) (t : List ℕ) → Off (book_text B ++ (10 ∷ t))
unfolding book_text quotes after_blanks is_blank is_capital
book_off unbooked t = record { after = after_line t; comma = refl; capital = refl }
book_off (booked w C) t = record { after = after_space _; comma = refl; capital = refl }

book_neat : {ms : List Item} (B : Booking ms) → Neat (book_text B)
unfolding book_text
book_neat unbooked = neat_none
book_neat (booked w C) = neat_space _ (neat_quotes w C.neat)

coins_neat : {ms : List Item} (N : Coins ms) → Neat (coins_text N)
unfolding coins_text
coins_neat no_coins = neat_none
coins_neat (more_coins w C N) = neat_cons 44 _ (free_range 44 (omega arith) (omega arith)) (neat_space _ (neat_join w _ (neat_currency w C) (coins_neat N)))

purse_neat : {ms : List Item} (P : Purse ms) → Neat (purse_text P)
unfolding purse_text
purse_neat empty = neat_none
purse_neat (purse w C N) = neat_space _ (neat_join w _ (neat_currency w C) (coins_neat N))

-- ---- what they write

coins_last : {ms : List Item} → Item → Coins ms → Item
coins_last prev no_coins = prev
coins_last prev (more_coins w C N) = coins_last (text_item 31 w) N

purse_last : {ms : List Item} → Item → Purse ms → Item
purse_last prev empty = prev
purse_last prev (purse w C N) = coins_last (text_item 31 w) N

book_last : {ms : List Item} → Item → Booking ms → Item
book_last prev unbooked = prev
book_last prev (booked w C) = text_item 32 w

coins_print : {ms : List Item} (N : Coins ms) (k : ℕ) (v : List ℕ) (ds : List Item) → printed k (text_item 31 v) (ms ++ ds) ≡ coins_text N ++ printed k (coins_last (text_item 31 v) N) ds
unfolding coins_text coins_last detail_text bytes
coins_print no_coins k v ds = refl
coins_print (more_coins w {ms} C N) k v ds =
    print_detail k (text_item 31 v) (text_item 31 w) (ms ++ ds) refl ∙ ap (λ z. 44 ∷ 32 ∷ (w ++ z)) (coins_print N k w ds) ∙ ap (λ z. 44 ∷ 32 ∷ z) (sym (append_assoc w (coins_text N) _))

purse_print : {ms : List Item} (P : Purse ms) (k : ℕ) (v : List ℕ) (ds : List Item) → printed k (text_item 25 v) (ms ++ ds) ≡ purse_text P ++ printed k (purse_last (text_item 25 v) P) ds
unfolding purse_text purse_last detail_text
purse_print empty k v ds = refl
purse_print (purse w {ms} C N) k v ds =
    print_detail k (text_item 25 v) (text_item 31 w) (ms ++ ds) refl ∙ ap (λ z. 32 ∷ (w ++ z)) (coins_print N k w ds) ∙ ap (λ z. 32 ∷ z) (sym (append_assoc w (coins_text N) _))

book_print : {ms : List Item} (B : Booking ms) (k : ℕ) (prev : Item) (ds : List Item) → printed k prev (ms ++ ds) ≡ book_text B ++ printed k (book_last prev B) ds
unfolding book_text book_last detail_text
book_print unbooked k prev ds = refl
book_print (booked w C) k prev ds = print_detail k prev (text_item 32 w) ds refl

purse_after : {ms : List Item} (P : Purse ms) (post : List ℕ) → After post → After (purse_text P ++ post)
unfolding purse_text
purse_after empty post F = F
purse_after (purse w C N) post F = after_space _

open_again : (w : List ℕ) → Account w → {ps bs : List Item} → Purse ps → Booking bs → Again open_of (text_item 25 w ∷ (ps ++ bs))
unfolding open_of
open_again w C {ps} {bs} P B =
    let p = purse_text P in
    let b = book_text B in
    let flat : (x : List ℕ) → (w ++ (p ++ b)) ++ x ≡ w ++ (p ++ (b ++ x)) = λ x. append_assoc w (p ++ b) x ∙ ap (λ z. w ++ z) (append_assoc p b x) in
    record {
      text = w ++ (p ++ b);
      last = book_last (purse_last (text_item 25 w) P) B;
      neat = neat_join w _ (neat_account w C) (neat_join p b (purse_neat P) (book_neat B));
      starts = λ x. rw (flat x) (account_blank w (p ++ (b ++ x)) C);
      reads = λ s i t A.
          let u = b ++ (10 ∷ t) in
          let O = book_off B t in
          and_reads (text_item 25 w ∷ []) (ps ++ bs) (hard_account_is w (p ++ u) C (purse_after P u O.after) (subst (At s i) (flat (10 ∷ t)) A)) (λ a D.
          and_reads ps bs (purse_is P u O D) (λ c E. booking_is B t E));
      prints = λ k prev ds e f g.
          print_account k prev ((ps ++ bs) ++ ds) w
          ∙ ap (λ z. 32 ∷ (w ++ z)) (ap (printed k (text_item 25 w)) (append_assoc ps bs ds) ∙ purse_print P k w (bs ++ ds) ∙ ap (λ z. p ++ z) (book_print B k (purse_last (text_item 25 w) P) ds))
          ∙ ap (λ z. 32 ∷ z) (sym (flat _));
    }

-- Open.
pub open_anew : Anew open_of
unfolding open_of
open_anew s i j t rs T A h f =
    let a = and_inv (hard_account s i) _ j rs h in
    let b = and_inv (maybe a.0 (gap s a.0 and λ g. currencies s g)) _ j a.2 a.4 in
    let g = subst (Every Fine) a.5 f in
    let H = hard_account_was A a.3 in
    let P = maybe_currencies_was s T a.0 b.0 _ b.1 H.place b.3 (every_left Fine b.1 b.2 (subst (Every Fine) b.5 (every_right Fine a.1 a.2 g))) in
    let B = booking_was s T b.0 j _ b.2 P.place b.4 in
    let e =
    ap (items s) (a.5 ∙ ap (λ z. a.1 ++ z) b.5) ∙ items_append s a.1 (b.1 ++ b.2) ∙ ap (λ z. items s a.1 ++ z) (items_append s b.1 b.2)
    ∙ ap (λ z. z ++ (items s b.1 ++ items s b.2)) H.is.2 in
    record { rest = B.rest; place = B.place; is = again_is e (open_again H.is.0 H.is.1 P.is B.is) }
