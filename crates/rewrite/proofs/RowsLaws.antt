-- The loop over the rows, and the two passes.
use Rattle.text.specs.declared.stop.Refused.{Refused}
use Rattle.text.specs.Refusals.{refused_with}
use Rattle.std.specs.Prelude.{Err, Ok, Result}
use Prim.Native.Nat.{ℕ, suc, ◌+◌, ◌-◌, ◌*◌, ◌^◌, ◌≤◌, ◌<◌, min}
use native.Mathlib.Nat.{zero-add}
use native.Mathlib.Omega.{arith}
use mathlib.Core.Path.{◌≡◌, refl, sym, ◌∙◌, ap, subst}
use mathlib.Core.Bool.{Bool, true, false, cond}
use mathlib.Core.List.{List, [], ◌∷◌, ◌++◌, append_assoc}
use borrow.Author.Tests.{le-leb, lt-leb, lt-ltb, le-ltb}
use lib.Dec.{ltb, leb}
use lib.ListN.{length, take, drop}
use lib.Seq.{drop-drop}
use Rattle.decimal.specs.Exact.{largest}
use Rattle.row.specs.declared.table.Row.{Row}
use Rattle.row.specs.Row.{row_in, rows_in, width}
use Rattle.row.specs.Details.{spanned}
use Rattle.text.proofs.Steps.{rest_of}
use Rattle.layout.specs.Meaning.{Item, texted, naming, item_of, meaning}
use Rattle.layout.specs.Written.{head_text, detail_text, closing, kind_of, printed, no_item}
use Rattle.row.proofs.FieldLaws.{sets_front}
use Rattle.rewrite.specs.steps.Putting.{Put}
use Rattle.rewrite.specs.steps.Pieces.{no_row, front, Flagged, AllFlagged, piece_text, kind_now}
use Rattle.rewrite.specs.steps.Pouring.{Going, Pours}
use Rattle.rewrite.proofs.PutLaws.{join}

-- ---- row by row

pub printed_step : (k : ℕ) (prev d : Item) (ds : List Item) → printed k prev (d ∷ ds) ≡ piece_text k prev d (kind_of ds) ++ printed (kind_now d.kind k) d ds
unfolding printed piece_text kind_now
printed_step k prev d ds = go (ltb d.kind 20)
  where
    go : (b : Bool) → cond b (closing k ++ (head_text d (kind_of ds) ++ printed d.kind d ds)) (detail_text prev d (kind_of ds) ++ printed k d ds)
        ≡ cond b (closing k ++ head_text d (kind_of ds)) (detail_text prev d (kind_of ds)) ++ printed (cond b d.kind k) d ds
    go true = sym (append_assoc (closing k) (head_text d (kind_of ds)) (printed d.kind d ds))
    go false = refl

module _ (s : List ℕ) (k next : ℕ) (prev x : Row) (t u : List ℕ) (at r : ℕ) where
  pub piece_entry : {v : List ℕ} {q : ℕ} → x.kind < 20 → Put t at (closing k) u r → Put u r (head_text (item_of s x) next) v q
      → Put t at (piece_text k (item_of s prev) (item_of s x) next) v q
  unfolding piece_text item_of
  piece_entry h p m = rw (lt-ltb x.kind 20 h) (join p m)

  pub piece_detail : 20 ≤ x.kind → Put t at (detail_text (item_of s prev) (item_of s x) next) u r → Put t at (piece_text k (item_of s prev) (item_of s x) next) u r
  unfolding piece_text item_of
  piece_detail h p = rw (le-ltb x.kind 20 h) p

pub ruleset piece_laws = (piece_entry, piece_detail)

module _ (kind k : ℕ) where
  pub now_entry : kind < 20 → kind ≡ kind_now kind k
  unfolding kind_now
  now_entry h = rw (lt-ltb kind 20 h)

  pub now_detail : 20 ≤ kind → k ≡ kind_now kind k
  unfolding kind_now
  now_detail h = rw (le-ltb kind 20 h)

pub ruleset kind_laws = (now_entry, now_detail)

-- ---- row i of the first n rows

module _ (t : List ℕ) (i n : ℕ) (x : Row) where
  pub row_none : n ≤ i → x ≡ no_row → x ≡ front (rows_in (n - i) (drop (i * width) t))
  unfolding rows_in
  row_none h e = let z : n - i ≡ 0 = omega arith in e ∙ rw z

  first_row : (m : ℕ) → n - i ≡ suc m → x ≡ row_in (drop (i * width) t) → x ≡ front (rows_in (n - i) (drop (i * width) t))
  unfolding rows_in
  first_row m h e = e ∙ rw h

  pub row_there : i < n → x ≡ row_in (take (length t - i * width) (drop (i * width) t)) → x ≡ front (rows_in (n - i) (drop (i * width) t))
  row_there h e = let m : n - i ≡ suc (n - i - 1) = omega arith in first_row (n - i - 1) m (e ∙ ap row_in (rest_of t (i * width)))

pub ruleset row_laws = (row_none, row_there)

-- ---- the loop

kind_front : (s : List ℕ) (xs : List Row) → kind_of (meaning s xs) ≡ (front xs).kind
unfolding meaning item_of
kind_front s [] = refl
kind_front s (x ∷ xs) = refl

item_kind : (s : List ℕ) (x : Row) → (item_of s x).kind ≡ x.kind
unfolding item_of
item_kind s x = refl

meaning_more : (s : List ℕ) (x : Row) (xs : List Row) → meaning s (x ∷ xs) ≡ item_of s x ∷ meaning s xs
unfolding meaning
meaning_more s x xs = refl

no_item_lem : (s : List ℕ) → item_of s no_row ≡ no_item
unfolding item_of texted naming spanned
no_item_lem s = refl

-- the first of the rows that are left, and the others
rows_more : (m i : ℕ) (t : List ℕ) → rows_in (suc m) (drop (i * width) t) ≡ front (rows_in (suc m) (drop (i * width) t)) ∷ rows_in m (drop ((i + 1) * width) t)
unfolding rows_in
rows_more m i t =
    let e : i * width + width ≡ (i + 1) * width = omega arith in
    ap (λ (z : List ℕ). row_in (drop (i * width) t) ∷ rows_in m z) (drop-drop width (i * width) t ∙ ap (λ (z : ℕ). drop z t) e)

front_flagged : (xs : List Row) → AllFlagged xs → Flagged (front xs)
front_flagged [] h = record { low = λ e. omega arith }
front_flagged (x ∷ xs) h = h.0

module _ (s t : List ℕ) (n : ℕ) (o : List ℕ) (h : (n * width ≤ length t) × AllFlagged (rows_in n t)) where
  pub rows_start : (prev x : Row) → prev ≡ no_row → x ≡ front (rows_in (n - 0) (drop (0 * width) t)) → Going s t n o o 0 0 0 prev x
  rows_start prev x e f =
      let c : rows_in (n - 0) (drop (0 * width) t) ≡ rows_in n t = ap (λ (j : ℕ). rows_in j t) {x = n - 0} {y = n} (omega arith) in
      record {
        on = λ v q p. subst (λ (z : Item). Put o 0 (printed 0 z (meaning s (rows_in n t))) v q) (ap (item_of s) e ∙ no_item_lem s)
            (subst (λ (z : List Row). Put o 0 (printed 0 (item_of s prev) (meaning s z)) v q) c p);
        first = f;
        flags = subst AllFlagged (sym c) h.1;
        same = refl;
      }

module _ (s t : List ℕ) (n : ℕ) (o : List ℕ) (out : List ℕ) (i at k : ℕ) (prev x : Row) (g : Going s t n o out i at k prev x) where
  pub rows_end : (v : List ℕ) (q : ℕ) → n ≤ i → Put out at (closing k) v q → Put o 0 (printed 0 no_item (meaning s (rows_in n t))) v q
  unfolding printed rows_in meaning
  rows_end v q h p =
      let y : 0 ≡ n - i = omega arith in
      g.on v q (subst (λ (j : ℕ). Put out at (printed k (item_of s prev) (meaning s (rows_in j (drop (i * width) t)))) v q) y p)

  pub rows_flagged : Flagged x
  rows_flagged = subst Flagged (sym g.first) (front_flagged (rows_in (n - i) (drop (i * width) t)) g.flags)

  module _ (h : i < n) where
    all_left : (m : ℕ) → n - i ≡ suc m → rows_in (n - i) (drop (i * width) t) ≡ x ∷ rows_in m (drop ((i + 1) * width) t)
    all_left m y =
        ap (λ (j : ℕ). rows_in j (drop (i * width) t)) y ∙ rows_more m i t
        ∙ ap (λ (z : Row). z ∷ rows_in m (drop ((i + 1) * width) t)) (ap (λ (j : ℕ). front (rows_in j (drop (i * width) t))) (sym y) ∙ sym g.first)

    pub rows_on : (next : Row) (v : List ℕ) (q j : ℕ) → next ≡ front (rows_in (n - (i + 1)) (drop ((i + 1) * width) t))
        → Put out at (piece_text k (item_of s prev) (item_of s x) next.kind) v q → j ≡ kind_now x.kind k → Going s t n o v (i + 1) q j x next
    rows_on next v q j en p ej =
        let m = n - (i + 1) in
        let xs = rows_in m (drop ((i + 1) * width) t) in
        let y : n - i ≡ suc m = omega arith in
        let c : rows_in (n - i) (drop (i * width) t) ≡ x ∷ xs = all_left m y in
        let f : next.kind ≡ kind_of (meaning s xs) = ap (λ (z : Row). z.kind) en ∙ sym (kind_front s xs) in
        record {
          on = λ (w : List ℕ) (l : ℕ) (z : Put v q (printed j (item_of s x) (meaning s xs)) w l).
              g.on w l (subst (λ (b : List Row). Put out at (printed k (item_of s prev) (meaning s b)) w l) (sym c) (step xs next v q j w l f p ej z));
          first = en;
          flags = (subst AllFlagged c g.flags).1;
          same = p.same ∙ g.same;
        }
      where
        step : (xs : List Row) (next : Row) (v : List ℕ) (q j : ℕ) (w : List ℕ) (l : ℕ) → next.kind ≡ kind_of (meaning s xs)
            → Put out at (piece_text k (item_of s prev) (item_of s x) next.kind) v q → j ≡ kind_now x.kind k → Put v q (printed j (item_of s x) (meaning s xs)) w l
            → Put out at (printed k (item_of s prev) (meaning s (x ∷ xs))) w l
        step xs next v q j w l f p ej z =
            let a : Put out at (piece_text k (item_of s prev) (item_of s x) (kind_of (meaning s xs))) v q = subst (λ (b : ℕ). Put out at (piece_text k (item_of s prev) (item_of s x) b) v q) f p in
            let b : Put v q (printed (kind_now x.kind k) (item_of s x) (meaning s xs)) w l = subst (λ (d : ℕ). Put v q (printed d (item_of s x) (meaning s xs)) w l) ej z in
            subst (λ (d : List ℕ). Put out at d w l) (sym (all_printed xs)) (join a b)
          where
            all_printed : (xs : List Row) → printed k (item_of s prev) (meaning s (x ∷ xs)) ≡ piece_text k (item_of s prev) (item_of s x) (kind_of (meaning s xs)) ++ printed (kind_now x.kind k) (item_of s x) (meaning s xs)
            all_printed xs = ap (printed k (item_of s prev)) (meaning_more s x xs) ∙ whole_step xs
              where
                whole_step : (xs : List Row) → printed k (item_of s prev) (item_of s x ∷ meaning s xs) ≡ piece_text k (item_of s prev) (item_of s x) (kind_of (meaning s xs)) ++ printed (kind_now x.kind k) (item_of s x) (meaning s xs)
                whole_step xs = printed_step k (item_of s prev) (item_of s x) (meaning s xs) ∙ ap (λ (d : ℕ). piece_text k (item_of s prev) (item_of s x) (kind_of (meaning s xs)) ++ printed (kind_now d k) (item_of s x) (meaning s xs)) (item_kind s x)

pub ruleset rows_laws = (rows_start, rows_end, rows_flagged, rows_on)

-- ---- the two passes

module _ (w o a b : List ℕ) (need : ℕ) (p : Put a 0 w b need) where
  need_is : need ≡ min (length w) largest
  need_is = p.next (omega arith) ∙ rw (zero-add (length w))

  pub pour_short : (r : Result ℕ Refused) → r ≡ Err (refused_with 9 0 need) → length o < need → Pours w o r o
  pour_short r e h =
      let q : leb (length w) (length o) ≡ false = lt-leb (length w) (length o) (omega (arith, need_is)) in
      record { answer = e ∙ rw (q, need_is); left = rw q }

  pub pour_all : (u : List ℕ) (r : ℕ) → need ≤ length o → length o * 1 < 2 ^ 63 → Put o 0 w u r → Pours w o (Ok need) u
  pour_all u r h z k =
      let e : need ≡ length w = omega (arith, need_is) in
      let l : length w ≤ length o = omega arith in
      let q : leb (length w) (length o) ≡ true = le-leb (length w) (length o) l in
      record { answer = rw (q, e); left = k.bytes (omega arith) (omega arith) ∙ sets_front w o l ∙ rw q }

pub ruleset pour_laws = (pour_short, pour_all)
