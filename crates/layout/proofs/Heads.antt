-- What opens a transaction, and the transaction that was read.
use Prim.Native.Nat.{ℕ, ◌+◌, ◌<◌}
use native.Mathlib.Omega.{arith}
use native.Mathlib.Decide.{ℕ_discrete}
use mathlib.Core.Path.{◌≡◌, refl, sym, ◌∙◌, ap, ap₂, subst}
use mathlib.Core.Bool.{Bool, true, false, cond}
use mathlib.Core.List.{List, [], ◌∷◌, ◌++◌}
use mathlib.Core.Logic.{◌⊎◌, inl, inr}
use borrow.Author.Tests.{eq-eqb, eqb-true}
use lib.Dec.{eqb}
use lib.ListN.{length, get_or, drop}
use Rattle.text.specs.Bytes.{is_blank, bytes, is_small, between}
use Rattle.text.specs.Answer.{To, Miss, ◌and◌, must, maybe, many}
use Rattle.text.specs.Leaves.{word, line_end}
use Rattle.text.specs.Permitted.{permitted}
use Rattle.text.proofs.Ats.{At, at_one, at_byte, at_drop}
use Rattle.text.proofs.Inversions.{and_inv, must_inv, else_inv, to_inv, not_miss}
use Rattle.text.proofs.Steps.{such_within, drop_step}
use Rattle.text.proofs.TokenEnds.{line_reach}
use Rattle.text.specs.Every.{Every}
use Rattle.text.proofs.EveryLaws.{every_left, every_right}
use Rattle.text.specs.Refusals.{missing}
use Rattle.amount.specs.Details.{Rows, span}
use Rattle.amount.specs.declared.detail.Detail.{Detail}
use Rattle.row.specs.Details.{spanned}
use Rattle.posting.specs.Metadata.{meta_step, metadata}
use Rattle.posting.specs.Postings.{is_flag, flag, body_step}
use Rattle.transaction.specs.Transaction.{opening, texts, marks, transaction}
use Rattle.transaction.proofs.TransactionEnds.{opening_reach}
use Rattle.layout.specs.Meaning.{Item, texted}
use Rattle.layout.proofs.Texts.{at_split, Tidy}
use Rattle.layout.proofs.Values.{line_blank}
use Rattle.layout.proofs.Tokens.{at_head}
use Rattle.layout.proofs.Neats.{Neat, neat_none, neat_cons, neat_all, free_feed, free_small, no_return, tidy_head, tidy_cons, tidy_at}
use Rattle.layout.proofs.Readings.{items, items_append, Fine, text_item, Reads, skip_reads, There, none_reads, first_reads, second_reads, span_item, TextKind}
use Rattle.layout.proofs.Marks.{reached, gap_misses, word_reads}
use Rattle.layout.proofs.Parts.{text_row_lem}
use Rattle.layout.proofs.Metas.{Metas, metadata_was, line_empty}
use Rattle.layout.proofs.Directives.{word_empty}
use Rattle.layout.proofs.Posts.{Posts, body_was, flag_inv, flag_none}
use Rattle.layout.proofs.HeadMarks.{Marked, mark_misses, marks_neat, marks_was, marks_text, no_marks}
use Rattle.layout.proofs.HeadTexts.{Told, maybe_texts_was, told_neat, told_text, untold}

-- ---- what opens it

pub data Opened : List Item → Type 0 where
  by_txn : Opened []
  by_flag : (b : ℕ) → is_flag b ≡ true → is_blank b ≡ false → Opened (text_item 20 (b ∷ []) ∷ [])

unfoldable pub open_text : {os : List Item} → Opened os → List ℕ
open_text by_txn = bytes "txn"
open_text (by_flag b p q) = b ∷ []

flag_kind_lem : TextKind 20
unfolding texted spanned
flag_kind_lem = (refl, refl)

pub open_blank : {os : List Item} (O : Opened os) (t : List ℕ) → is_blank (get_or (open_text O ++ t) 0 0) ≡ false
unfolding open_text bytes is_blank
open_blank by_txn t = refl
open_blank (by_flag b p q) t = q

txn_no_flag : (s : List ℕ) (i : ℕ) (t : List ℕ) → At s i (bytes "txn" ++ t) → (flag s i and λ e. To e (span 20 i e ∷ [])) ≡ Miss
unfolding flag bytes is_flag is_small ◌and◌
txn_no_flag s i t A = rw (at_byte A)

flag_there : {s : List ℕ} {i : ℕ} (b : ℕ) (t : List ℕ) → is_flag b ≡ true → At s i (b ∷ t) → Reads s (flag s i) [] t
unfolding flag
flag_there b t p A = none_reads (rw (at_byte A, p)) (at_one A)

pub opening_is : {s : List ℕ} {i : ℕ} {os : List Item} (O : Opened os) (t : List ℕ) → At s i (open_text O ++ t) → Reads s (opening s i) os t
unfolding open_text opening
opening_is {s} {i} by_txn t A = second_reads (txn_no_flag s i t A) (word_reads (bytes "txn") t A)
opening_is {s} {i} (by_flag b p q) t A = first_reads _ (skip_reads (flag_there b t p A) (λ e E. text_row_lem 20 i e (b ∷ []) t flag_kind_lem A E))

flag_empty : (s : List ℕ) (g x : ℕ) (y : List Detail) → flag s g ≡ To x y → y ≡ []
unfolding flag
flag_empty s g x y h = go (is_flag (get_or s g 0)) h
  where
    go : (c : Bool) → ◌≡◌ {A = Rows} (cond c (To (g + 1) []) Miss) (To x y) → y ≡ []
    go true h = cc
    go false h = not_miss h

-- a flag with the byte behind it, or `txn`
abbrev FlagIs : List ℕ → ℕ → ℕ → List Item → Type 0
FlagIs s g j os = (b : ℕ) × (u : List ℕ) × (is_flag b ≡ true) × (is_blank b ≡ false) × At s g (b ∷ u) × (j ≡ g + 1) × (os ≡ text_item 20 (b ∷ []) ∷ [])

opening_was : (s : List ℕ) (g j : ℕ) (t : List ℕ) (rs : List Detail) → At s g t → is_blank (get_or t 0 0) ≡ false → opening s g ≡ To j rs → FlagIs s g j (items s rs) ⊎ (rs ≡ [])
unfolding opening
opening_was s g j t rs A b h = go (else_inv (flag s g and λ e. To e (span 20 g e ∷ [])) _ j rs h)
  where
    go : ((flag s g and λ e. To e (span 20 g e ∷ [])) ≡ To j rs) ⊎ (((flag s g and λ e. To e (span 20 g e ∷ [])) ≡ Miss) × (word (bytes "txn") s g ≡ To j rs)) → FlagIs s g j (items s rs) ⊎ (rs ≡ [])
    go (inl h) =
        let a = and_inv (flag s g) _ j rs h in
        let f = flag_inv s g a.0 a.1 a.3 in
        let c = to_inv a.0 j _ a.2 a.4 in
        let k : g < length s = such_within is_flag s g (get_or s g 0) flag_none refl f.0 in
        let D : At s g (get_or s g 0 ∷ drop (g + 1) s) = subst (At s g) (drop_step s g k) (at_drop s g (omega arith)) in
        let x : j ≡ g + 1 = sym c.0 ∙ f.1 in
        let y : between s g j ≡ get_or s g 0 ∷ [] = (at_split (get_or s g 0 ∷ []) (drop (g + 1) s) j D x).0 in
        inl (
          get_or s g 0,
          drop (g + 1) s,
          f.0,
          rw (at_byte A) b,
          D,
          x,
          ap (items s) (a.5 ∙ ap (λ z. z ++ a.2) (flag_empty s g a.0 a.1 a.3) ∙ c.1 ∙ ap (λ z. span 20 g z ∷ []) c.0)
              ∙ ap (λ z. z ∷ []) (span_item s 20 g j flag_kind_lem ∙ ap (text_item 20) y),
        )
    go (inr h) = inr (word_empty (bytes "txn") s g j rs h.1)

-- ---- the transaction

unfoldable pub head_text_of : {os ts ms : List Item} → Opened os → Told ts → Marked ms → List ℕ → List ℕ
head_text_of O T M v = open_text O ++ (told_text T ++ (marks_text M ++ (10 ∷ v)))

pub record Trans (s : List ℕ) (j : ℕ) (ks : List Item) : Type 0 where
  pub os : List Item
  pub ts : List Item
  pub ms : List Item
  pub ns : List Item
  pub ps : List Item
  pub opened : Opened os
  pub texts : Told ts
  pub marks : Marked ms
  pub metas : Metas ns
  pub posts : Posts ps
  pub is : ks ≡ os ++ (ts ++ (ms ++ (ns ++ ps)))
  pub tidy : (v : List ℕ) → Tidy v → Tidy (head_text_of opened texts marks v)
  pub stop : meta_step s j ≡ Miss
  pub halt : body_step s j ≡ Miss

txn_neat : Neat (bytes "txn")
unfolding bytes is_small
txn_neat = neat_all is_small free_small _ (refl, (refl, (refl, tt)))

open_txn_neat : Neat (open_text by_txn)
unfolding open_text
open_txn_neat = txn_neat

free_tidy : {os ts ms : List Item} (O : Opened os) → Neat (open_text O) → (T : Told ts) (M : Marked ms) (v : List ℕ) → Tidy v → Tidy (head_text_of O T M v)
unfolding head_text_of
free_tidy O N T M v k = N.before _ ((told_neat T).before _ ((marks_neat M).before _ ((neat_cons 10 [] free_feed neat_none).before v k)))

-- a flag before a line feed: no texts and no marks follow
module _ (s : List ℕ) (a : ℕ) (u : List ℕ) (A : At s a (10 ∷ u)) where
  no_texts : maybe a (texts s a) ≡ To a []
  unfolding texts maybe ◌and◌
  no_texts = rw (gap_misses line_blank A)

  none_marked : marks s a ≡ To a []
  unfolding marks many maybe ◌and◌
  none_marked = rw (mark_misses u A)

-- a transaction that a flag opens
module _ (s : List ℕ) (g j : ℕ) (ks : List Item) (T : Tidy s) (a c d : ℕ) (os : List Item) (xs ms : List Detail) (ht : maybe a (texts s a) ≡ To c xs) (hm : marks s c ≡ To d ms)
    (ns ps : List Item) (N : Metas ns) (P : Posts ps)
    (all : ks ≡ os ++ (items s xs ++ (items s ms ++ (ns ++ ps)))) (st : meta_step s j ≡ Miss) (hl : body_step s j ≡ Miss) (w : ℕ) (u : List ℕ) (p : is_flag w ≡ true)
    (q : is_blank w ≡ false) (D : At s g (w ∷ u)) (z : a ≡ g + 1) (e : os ≡ text_item 20 (w ∷ []) ∷ []) where
  perm : permitted w (get_or u 0 0) ≡ true
  perm = tidy_head w u (tidy_at T D)

  free_trans : (get_or u 0 0 ≡ 10 → ⊥) → Told (items s xs) → Marked (items s ms) → Trans s j ks
  unfolding open_text
  free_trans n X M = record {
    os = text_item 20 (w ∷ []) ∷ [];
    ts = items s xs;
    ms = items s ms;
    ns = ns;
    ps = ps;
    opened = by_flag w p q;
    texts = X;
    marks = M;
    metas = N;
    posts = P;
    is = all ∙ ap (λ y. y ++ (items s xs ++ (items s ms ++ (ns ++ ps)))) e;
    tidy = free_tidy (by_flag w p q) (neat_cons w [] (no_return w (get_or u 0 0) perm n) neat_none) X M;
    stop = st;
    halt = hl;
  }

  feed_trans : get_or u 0 0 ≡ 10 → Trans s j ks
  unfolding head_text_of open_text told_text marks_text
  feed_trans n =
      let k = at_head (λ y. eqb y 10) refl (at_one D) (eq-eqb _ 10 (at_byte (at_one D) ∙ n)) in
      let B : At s a (10 ∷ k.1) = subst (λ y. At s y (10 ∷ k.1)) (sym z) (subst (At s (g + 1)) (k.2 ∙ ap (λ y. y ∷ k.1) (eqb-true k.0 10 k.3)) (at_one D)) in
      let x = to_inv a c [] xs (sym (no_texts s a k.1 B) ∙ ht) in
      let y = to_inv a d [] ms (sym (none_marked s a k.1 B) ∙ ap (marks s) x.0 ∙ hm) in
      record {
        os = text_item 20 (w ∷ []) ∷ [];
        ts = [];
        ms = [];
        ns = ns;
        ps = ps;
        opened = by_flag w p q;
        texts = untold;
        marks = no_marks;
        metas = N;
        posts = P;
        is = all ∙ ap (λ i. i ++ (items s xs ++ (items s ms ++ (ns ++ ps)))) e ∙ ap₂ (λ m n. text_item 20 (w ∷ []) ∷ (items s m ++ (items s n ++ (ns ++ ps)))) x.1 y.1;
        tidy = λ v k. tidy_cons w (10 ∷ v) (subst (λ i. permitted w i ≡ true) n perm) ((neat_cons 10 [] free_feed neat_none).before v k);
        stop = st;
        halt = hl;
      }

  flag_trans : Told (items s xs) → Marked (items s ms) → Trans s j ks
  flag_trans X M = elim (ℕ_discrete (get_or u 0 0) 10) [ yes n ↦ feed_trans n | no n ↦ free_trans n X M ]

module _ (s : List ℕ) (g j : ℕ) (t : List ℕ) (rs : List Detail) (T : Tidy s) (A : At s g t) (b : is_blank (get_or t 0 0) ≡ false) (h : transaction s g ≡ To j rs) (f : Every Fine rs) where
  pub transaction_was : There s j rs (Trans s j)
  unfolding transaction
  transaction_was =
      let o = and_inv (opening s g) _ j rs h in
      let x = and_inv (maybe o.0 (texts s o.0)) _ j o.2 o.4 in
      let m = and_inv (marks s x.0) _ j x.2 x.4 in
      let l = and_inv (must missing m.0 (line_end s m.0)) _ j m.2 m.4 in
      let n = and_inv (metadata s l.0) _ j l.2 l.4 in
      let O = reached {s = s} (opening_reach s g (omega (arith, A.fits))) o.3 in
      let X = maybe_texts_was s o.0 x.0 _ x.1 T O x.3 in
      let f1 = every_right Fine o.1 o.2 (subst (Every Fine) o.5 f) in
      let f2 = every_right Fine x.1 x.2 (subst (Every Fine) x.5 f1) in
      let f3 = subst (Every Fine) m.5 f2 in
      let M = marks_was s x.0 m.0 _ m.1 X.place m.3 (every_left Fine m.1 m.2 f3) in
      let le = must_inv missing m.0 (line_end s m.0) l.0 l.1 l.3 in
      let L = reached {s = s} (line_reach s m.0 (omega (arith, M.place.fits))) le in
      let q = l.5 ∙ ap (λ z. z ++ l.2) (line_empty s m.0 l.0 l.1 le) in
      let f4 = subst (Every Fine) n.5 (subst (Every Fine) q (every_right Fine m.1 m.2 f3)) in
      let N = metadata_was s l.0 n.0 _ n.1 T L n.3 (every_left Fine n.1 n.2 f4) in
      let P = body_was s n.0 j _ n.2 T N.1 N.0.place n.4 (every_right Fine n.1 n.2 f4) in
      let all = ap (items s) (o.5 ∙ ap (λ z. o.1 ++ z) (x.5 ∙ ap (λ z. x.1 ++ z) (m.5 ∙ ap (λ z. m.1 ++ z) (q ∙ n.5))))
      ∙ items_append s o.1 _
      ∙ ap (λ z. items s o.1 ++ z) (items_append s x.1 _ ∙ ap (λ z. items s x.1 ++ z) (items_append s m.1 _ ∙ ap (λ z. items s m.1 ++ z) (items_append s n.1 n.2))) in
      record {
        rest = P.0.rest;
        place = P.0.place;
        is =
            build (items s rs) o.0 x.0 m.0 o.1 x.1 m.1 (opening_was s g o.0 t o.1 A b o.3) x.3 m.3 X.is M.is (items s n.1)
            (items s n.2) N.0.is P.0.is all P.2 P.1;
      }
    where
      build : (ks : List Item) (a c d : ℕ) (os xs ms : List Detail) → FlagIs s g a (items s os) ⊎ (os ≡ []) → maybe a (texts s a) ≡ To c xs → marks s c ≡ To d ms
          → Told (items s xs) → Marked (items s ms) → (ns ps : List Item) → Metas ns → Posts ps
          → ks ≡ items s os ++ (items s xs ++ (items s ms ++ (ns ++ ps))) → meta_step s j ≡ Miss → body_step s j ≡ Miss → Trans s j ks
      build ks a c d os xs ms (inr e) ht hm X M ns ps N P all st hl = record {
        os = [];
        ts = items s xs;
        ms = items s ms;
        ns = ns;
        ps = ps;
        opened = by_txn;
        texts = X;
        marks = M;
        metas = N;
        posts = P;
        is = all ∙ ap (λ z. items s z ++ (items s xs ++ (items s ms ++ (ns ++ ps)))) e;
        tidy = free_tidy by_txn open_txn_neat X M;
        stop = st;
        halt = hl;
      }
      build ks a c d os xs ms (inl (w, u, p, q, D, z, e)) ht hm X M ns ps N P all st hl = flag_trans s g j ks T a c d (items s os) xs ms ht hm ns ps N P all st hl w u p q D z e X M
