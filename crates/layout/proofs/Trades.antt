-- A transaction, renewed.
use Prim.Native.Nat.{ℕ}
use native.Mathlib.Omega.{arith}
use mathlib.Core.Path.{◌≡◌, refl, sym, ◌∙◌, ap, subst}
use mathlib.Core.Bool.{true, false}
use mathlib.Core.List.{List, [], ◌∷◌, ◌++◌, append_assoc}
use borrow.Author.Tests.{ne_eqb, ltb-true}
use lib.Dec.{eqb, ltb}
use lib.ListN.{get_or, drop}
use Rattle.text.specs.Bytes.{bytes, is_digit, is_blank}
use Rattle.text.specs.Answer.{To}
use Rattle.text.proofs.Ats.{At, at_drop, at_in}
use Rattle.transaction.specs.Transaction.{transaction}
use Rattle.entry.specs.Forms.{Form as Entry, as_entry, dateless}
use Rattle.layout.specs.Meaning.{Item, texted}
use Rattle.layout.specs.Written.{detail_text, kind_of, printed, date_text, head_text, closing, no_item}
use Rattle.layout.proofs.Texts.{Tidy}
use Rattle.text.proofs.DayLaws.{Day}
use Rattle.text.specs.Every.{Every}
use Rattle.text.specs.Refusals.{missing}
use Rattle.layout.proofs.Neats.{neat_none}
use Rattle.layout.proofs.Readings.{items, Fine, text_item, Reads, must_reads, skip_reads, and_reads}
use Rattle.layout.proofs.Marks.{line_reads}
use Rattle.layout.proofs.Bodies.{print_detail, print_end, print_entry}
use Rattle.layout.proofs.Metas.{Metas, no_metas, one_meta, meta_kind, MetaStop, metas_text, metadata_is, metas_print, metas_neat, metas_behind}
use Rattle.layout.proofs.Choices.{Made, made, made_first}
use Rattle.layout.proofs.Compose.{Boundary, Renewal, own_item, renewal}
use Rattle.layout.proofs.DatedEntries.{Behind, dated_renewed}
use Rattle.layout.proofs.Posts.{Posts, no_posts, one_post, posts_text, BodyStop, body_is, posts_stop, posts_print, posts_neat, posts_behind}
use Rattle.layout.proofs.HeadMarks.{Marked, no_marks, a_tag, a_link, marks_text, marks_last, marks_is, marks_print}
use Rattle.layout.proofs.HeadTexts.{Told, untold, told, paid, told_text, told_last, texts_is, told_print}
use Rattle.layout.proofs.Heads.{Opened, by_txn, by_flag, open_text, open_blank, opening_is, head_text_of, Trans, transaction_was}

-- ---- what its rows write

-- no flag in front
no_flag_kind : {ts ms ns ps : List Item} (T : Told ts) (M : Marked ms) (N : Metas ns) (P : Posts ps) (ds : List Item) → ltb (kind_of ds) 20 ≡ true
    → eqb (kind_of (ts ++ (ms ++ (ns ++ (ps ++ ds))))) 20 ≡ false
no_flag_kind (told w C) M N P ds e = refl
no_flag_kind (paid p w D C) M N P ds e = refl
no_flag_kind untold (a_tag w H M) N P ds e = refl
no_flag_kind untold (a_link w H M) N P ds e = refl
no_flag_kind untold no_marks (one_meta M Ms) P ds e = meta_kind M 20 (omega arith)
no_flag_kind untold no_marks no_metas (one_post F w C U M Ps) ds e = refl
no_flag_kind untold no_marks no_metas no_posts ds e = ne_eqb (kind_of ds) 20 (λ f. absurd (omega (arith, ltb-true (kind_of ds) 20 e)))

open_last : {os : List Item} → ℕ → Opened os → Item
open_last p by_txn = own_item 6 p
open_last p (by_flag b x y) = text_item 20 (b ∷ [])

open_print : {os : List Item} (O : Opened os) (p j : ℕ) (prev : Item) (rest : List Item) → eqb (kind_of rest) 20 ≡ false
    → printed j prev (own_item 6 p ∷ (os ++ rest)) ≡ closing j ++ (date_text p ++ (32 ∷ (open_text O ++ printed 6 (open_last p O) rest)))
unfolding open_text open_last head_text detail_text bytes
open_print by_txn p j prev rest e = print_entry j prev (own_item 6 p) rest refl ∙ rw e (ap (λ z. closing j ++ z) (append_assoc (date_text p) (32 ∷ bytes "txn") (printed 6 (own_item 6 p) rest)))
open_print (by_flag b x y) p j prev rest e =
    print_entry j prev (own_item 6 p) (text_item 20 (b ∷ []) ∷ rest) refl
    ∙ ap (λ z. closing j ++ z) (append_assoc (date_text p) [] _ ∙ ap (λ z. date_text p ++ z) (print_detail 6 (own_item 6 p) (text_item 20 (b ∷ [])) rest refl))

-- ---- it reads again

head_behind : {os ts ms : List Item} (O : Opened os) (T : Told ts) (M : Marked ms) (x y : List ℕ) → head_text_of O T M x ++ y ≡ head_text_of O T M (x ++ y)
unfolding head_text_of
head_behind O T M x y =
    append_assoc (open_text O) _ y ∙ ap (λ z. open_text O ++ z) (append_assoc (told_text T) _ y ∙ ap (λ z. told_text T ++ z) (append_assoc (marks_text M) (10 ∷ x) y))

transaction_is : {s : List ℕ} {g : ℕ} {os ts ms ns ps : List Item} (O : Opened os) (T : Told ts) (M : Marked ms) (N : Metas ns) (P : Posts ps) (v : List ℕ) → MetaStop v → BodyStop v
    → At s g (head_text_of O T M (metas_text N (posts_text P v))) → Reads s (transaction s g) (os ++ (ts ++ (ms ++ (ns ++ ps)))) v
unfolding transaction head_text_of
transaction_is {s} {g} {os} {ts} {ms} {ns} {ps} O T M N P v stop halt A =
    let x = metas_text N (posts_text P v) in
    and_reads os (ts ++ (ms ++ (ns ++ ps))) (opening_is O _ A) (λ a B.
    and_reads ts (ms ++ (ns ++ ps)) (texts_is T M x B) (λ b C.
    and_reads ms (ns ++ ps) (marks_is M x C) (λ c D.
    skip_reads (must_reads missing c (line_reads D)) (λ d E.
    and_reads ns ps (metadata_is N (posts_text P v) (posts_stop P v stop) E) (λ e F. body_is P v stop halt F)))))

module _ (s : List ℕ) (p n : ℕ) (r : List ℕ) (E : At s n r) (ks : List Item) (R : Trans s n ks) where
  behind : List ℕ → List ℕ
  behind v = metas_text R.metas (posts_text R.posts v)

  line : List ℕ → List ℕ
  line v = head_text_of R.opened R.texts R.marks (behind v)

  behind_is : (v : List ℕ) → behind [] ++ v ≡ behind v
  unfolding behind
  behind_is v = metas_behind R.metas (posts_text R.posts []) v ∙ ap (metas_text R.metas) (posts_behind R.posts [] v)

  goes_on : (v : List ℕ) → line [] ++ v ≡ line v
  unfolding line
  goes_on v = head_behind R.opened R.texts R.marks (behind []) v ∙ ap (head_text_of R.opened R.texts R.marks) (behind_is v)

  line_tidy : (v : List ℕ) → Tidy v → Tidy (line v)
  unfolding line behind
  line_tidy v k = R.tidy (behind v) (subst Tidy (behind_is v) ((metas_neat R.metas _ (posts_neat R.posts [] neat_none)).before v k))

  line_blank : (v : List ℕ) → is_blank (get_or (line v) 0 0) ≡ false
  unfolding line head_text_of
  line_blank v = open_blank R.opened _

  flat : (ds : List Item) → ks ++ ds ≡ R.os ++ (R.ts ++ (R.ms ++ (R.ns ++ (R.ps ++ ds))))
  flat ds =
      ap (λ z. z ++ ds) R.is ∙ append_assoc R.os _ ds
      ∙ ap (λ z. R.os ++ z) (append_assoc R.ts _ ds ∙ ap (λ z. R.ts ++ z) (append_assoc R.ms _ ds ∙ ap (λ z. R.ms ++ z) (append_assoc R.ns R.ps ds)))

  row_prints : (j : ℕ) (prev : Item) (ds : List Item) → ltb (kind_of ds) 20 ≡ true → printed j prev (own_item 6 p ∷ (ks ++ ds)) ≡ closing j ++ (date_text p ++ (32 ∷ line (printed 0 no_item ds)))
  unfolding line behind head_text_of closing
  row_prints j prev ds e =
      let v = printed 0 no_item ds in
      let O = R.opened in
      let l0 = open_last p O in
      let l1 = told_last l0 R.texts in
      let l2 = marks_last l1 R.marks in
      ap (λ z. printed j prev (own_item 6 p ∷ z)) (flat ds)
      ∙ open_print O p j prev (R.ts ++ (R.ms ++ (R.ns ++ (R.ps ++ ds)))) (no_flag_kind R.texts R.marks R.metas R.posts ds e)
      ∙ ap (λ z. closing j ++ (date_text p ++ (32 ∷ (open_text O ++ z)))) (told_print R.texts 6 l0 (R.ms ++ (R.ns ++ (R.ps ++ ds)))
      ∙ ap (λ z. told_text R.texts ++ z) (marks_print R.marks 6 l1 (R.ns ++ (R.ps ++ ds))
      ∙ ap (λ z. marks_text R.marks ++ z) (metas_print R.metas 6 l2 (R.ps ++ ds) (posts_text R.posts v) (λ prev. posts_print R.posts 6 prev ds v e (λ prev. print_end 6 prev ds e)))))

  row_reads_again : (u v : List ℕ) (g : ℕ) → Boundary r v → At u g (line v) → Made u (dateless p u g) 6 p ks v
  unfolding line behind dateless head_text_of
  row_reads_again u v g B G =
      let stop : MetaStop v = λ u m C. B.meta s u n m E C R.stop in
      let halt : BodyStop v = λ u m C. B.body s u n m E C R.stop R.halt in
      subst (λ z. Made u (dateless p u g) 6 p z v) (sym R.is) (made_first _ (made 6 p (transaction_is R.opened R.texts R.marks R.metas R.posts v stop halt G)))

  transaction_behind : Behind 6 p ks r
  transaction_behind = record { line = line; goes_on = goes_on; tidy = line_tidy; blank = line_blank; prints = row_prints; reads = row_reads_again }

no_text : texted 6 ≡ false
unfolding texted
no_text = refl

-- a transaction that was read, after a date
pub from_transaction : (s : List ℕ) (p n : ℕ) → Day p → is_digit (get_or s 0 0) ≡ true → Tidy s → (g : ℕ) (t : List ℕ) → At s g t → is_blank (get_or t 0 0) ≡ false → (f : Entry)
    → as_entry 6 p (transaction s g) ≡ To n f → Every Fine f.details → Renewal s n f
from_transaction s p n D first T g t A b f h fine = renewal s 6 p n (transaction s g) f no_text h fine (λ rs e fs.
    let W = transaction_was s g n t rs T A b e fs in
    dated_renewed s 6 p D no_text first (items s rs) (drop n s) (transaction_behind s p n (drop n s) (at_drop s n (at_in W.place)) (items s rs) W.is))
