-- Entry by entry: if each entry is written so that it reads again before what follows, the ledger is.
use Rattle.decimal.specs.Faults.{Value, number_of}
use Rattle.decimal.specs.declared.Fault.{Fault}
use Rattle.std.specs.Prelude.{Err, Ok}
use Prim.Native.Nat.{ℕ, zero, suc, ◌+◌, ◌-◌, ◌≤◌, ◌<◌}
use native.Mathlib.Omega.{arith}
use mathlib.Core.Path.{◌≡◌, refl, sym, ◌∙◌, ap, ap₂, subst}
use mathlib.Core.Bool.{Bool, true, false, cond, ◌&&◌, not}
use mathlib.Core.List.{List, [], ◌∷◌, ◌++◌, map}
use borrow.Author.Tests.{le-leb, leb-true, ltb-false, le-ltb, not-true, ne_eqb, eq-eqb, lt-ltb}
use lib.Dec.{eqb, leb, ltb}
use lib.IntN.{pos}
use lib.ListN.{length, get_or, take, drop, length-append, take-append-drop, length-take, length-drop}
use lib.Seq.{drop-drop}
use Rattle.decimal.specs.Exact.{twos_of}
use Rattle.text.specs.Bytes.{in_tag, between}
use Rattle.text.specs.Permitted.{clean, size_limit}
use Rattle.text.specs.Answer.{To, Miss}
use Rattle.text.proofs.TestLaws.{and_left, and_right}
use Rattle.text.proofs.Ats.{At, at_start_lem, at_next, at_place}
use Rattle.text.specs.Every.{Every}
use Rattle.amount.specs.Details.{Rows}
use Rattle.amount.specs.declared.detail.Detail.{Detail}
use Rattle.row.specs.Row.{row_of, feeds}
use Rattle.row.specs.Details.{spanned, value_place}
use Rattle.row.specs.declared.table.Row.{Row}
use Rattle.posting.specs.Metadata.{meta_step}
use Rattle.posting.specs.Postings.{body_step}
use Rattle.entry.specs.Forms.{as_entry, Form, form_of}
use Rattle.entry.specs.Entry.{Reads, got, refuse, detail_row, rows_of, judged, settled, entry_of}
use Rattle.entry.proofs.EntryForms.{entry_form, entry_sound}
use Rattle.entry.proofs.EntryTold.{form_kind_low}
use Rattle.ledger.specs.Plain.{Reading, accepted, denied, after, move, moved, read_from, part_at, plain}
use Rattle.ledger.proofs.PlainLaws.{read_nil, after_accepted}
use Rattle.layout.specs.Meaning.{Item, texted, naming, item_for, item_of, meaning}
use Rattle.layout.specs.Written.{closing, kind_of, printed, no_item, written}
use Rattle.layout.specs.Claim.{holds_quote, quiet, Rewritten, Claim}
use Rattle.layout.proofs.Texts.{at_between, Tidy}
use Rattle.layout.proofs.Neats.{tidy_drop}
use Rattle.layout.proofs.Readings.{item_d, items, Fine}
use Rattle.layout.proofs.Choices.{Made, as_inv}

-- what follows an entry, and what follows it in the output: where nothing of the entry before goes on into the one,
-- nothing goes on into the other
pub record Boundary (r v : List ℕ) : Type 0 where
  pub meta : (s u : List ℕ) (n m : ℕ) → At s n r → At u m v → meta_step s n ≡ Miss → meta_step u m ≡ Miss
  pub body : (s u : List ℕ) (n m : ℕ) → At s n r → At u m v → meta_step s n ≡ Miss → body_step s n ≡ Miss → body_step u m ≡ Miss
  pub tag : in_tag (get_or r 0 0) ≡ false → in_tag (get_or v 0 0) ≡ false

-- an entry of the text s, with its item m and its details' items ms, before r
pub record Renewed (s : List ℕ) (m : Item) (ms : List Item) (r : List ℕ) : Type 0 where
  pub text : List ℕ
  pub some : 0 < length text
  pub own : m ≡ record { kind = m.kind; text = cond (texted m.kind) text []; other = []; number = m.number; bits = 0 }
  pub prints : (k : ℕ) (prev : Item) (ds : List Item) → ltb (kind_of ds) 20 ≡ true → printed k prev (m ∷ (ms ++ ds)) ≡ closing k ++ (text ++ printed 0 no_item ds)
  pub reads : (v : List ℕ) → Boundary r v → Made (text ++ v) (form_of (text ++ v)) m.kind m.number ms v
  pub front : (v : List ℕ) → Boundary r v → Boundary s (text ++ v)
  pub tidy : (v : List ℕ) → Tidy v → Tidy (text ++ v)

abbrev pub entry_item : List ℕ → ℕ → Form → Item
entry_item s n f = record { kind = f.kind; text = cond (texted f.kind) (between s 0 n) []; other = []; number = f.date; bits = 0 }

-- the item of an entry whose span is no text
abbrev pub own_item : ℕ → ℕ → Item
own_item k p = record { kind = k; text = []; other = []; number = p; bits = 0 }

-- the entry f of s that ends at n
abbrev pub Renewal : List ℕ → ℕ → Form → Type 0
Renewal s n f = Renewed s (entry_item s n f) (items s f.details) (drop n s)

-- from the rows that it was made of
pub renewal : (s : List ℕ) (k p n : ℕ) (a : Rows) (f : Form) → texted k ≡ false → as_entry k p a ≡ To n f → Every Fine f.details
    → ((rs : List Detail) → a ≡ To n rs → Every Fine rs → Renewed s (own_item k p) (items s rs) (drop n s)) → Renewal s n f
renewal s k p n a f t h fine g =
    let m = as_inv k p a n f h in
    let own : entry_item s n (record { kind = k; date = p; details = m.0 }) ≡ own_item k p = rw t in
    subst (Renewal s n) (sym m.2)
    (subst (λ z. Renewed s z (items s m.0) (drop n s)) (sym own) (g m.0 m.1 (subst (λ z. Every Fine z.details) m.2 fine)))

-- ---- rows as items

entry_low : (k : ℕ) → k < 20 → (spanned k ≡ false) × (naming k ≡ false)
unfolding spanned naming
entry_low k h =
    let n : (m : ℕ) → 20 ≤ m → eqb k m ≡ false = λ m l. ne_eqb k m (λ e. absurd (omega arith)) in (
      rw (n 26 (omega arith), n 29 (omega arith), n 30 (omega arith), n 35 (omega arith), n 36 (omega arith), n 37 (omega arith)),
      rw (n 26 (omega arith), n 29 (omega arith), n 30 (omega arith), n 35 (omega arith), n 36 (omega arith), n 37 (omega arith)),
    )

head_item : (s : List ℕ) (n : ℕ) (f : Form) → f.kind < 20 → item_of s (row_of f.kind 0 n 0 f.date (length f.details) (pos 0)) ≡ entry_item s n f
unfolding item_of row_of twos_of
head_item s n f h = let k = entry_low f.kind h in rw (k.0, k.1)

detail_items : (s u : List ℕ) (ds : List Detail) → map (item_of s) (map (detail_row u) ds) ≡ items s ds
unfolding item_of detail_row row_of
detail_items s u [] = refl
detail_items s u (d ∷ ds) = ap (λ z. item_d s d ∷ z) (detail_items s u ds)

rows_items : (s : List ℕ) (n : ℕ) (f : Form) → f.kind < 20 → meaning s (rows_of s n f) ≡ entry_item s n f ∷ items s f.details
unfolding meaning rows_of
rows_items s n f h = ap₂ (λ x y. x ∷ y) (head_item s n f h) (detail_items s (take n s) f.details)

-- ---- rows that are moved

between_moved : (S s : List ℕ) (a x y : ℕ) → At S a s → between S (a + x) (a + y) ≡ between s x y
between_moved S s a x y A =
    let e : a + y - (a + x) ≡ y - x = omega arith in
    rw (e, ← drop-drop x a S, A.here)

naming_spanned : (k : ℕ) → spanned k ≡ false → naming k ≡ false
unfolding naming
naming_spanned k e = rw e

move_item : (S s : List ℕ) (a l : ℕ) (r : Row) → At S a s → item_of S (move a l r) ≡ item_of s r
unfolding item_of move
move_item S s a l r A = go (spanned r.kind) refl
  where
    go : (b : Bool) → spanned r.kind ≡ b
        → item_for S r.kind (a + r.start) (a + r.end) (cond (spanned r.kind) (a + r.p) r.p) (cond (spanned r.kind) (a + r.q) r.q) r.bits ≡ item_for s r.kind
        r.start r.end r.p r.q r.bits
    go true e = rw (e, between_moved S s a r.start r.end A, between_moved S s a r.p r.q A)
    go false e = rw (e, naming_spanned r.kind e, between_moved S s a r.start r.end A)

moved_items : (S s : List ℕ) (a l : ℕ) (rs : List Row) → At S a s → meaning S (moved a l rs) ≡ meaning s rs
unfolding meaning
moved_items S s a l [] A = refl
moved_items S s a l (r ∷ rs) A = ap₂ (λ x y. x ∷ y) (move_item S s a l r A) (moved_items S s a l rs A)

meaning_append : (s : List ℕ) (xs ys : List Row) → meaning s (xs ++ ys) ≡ meaning s xs ++ meaning s ys
unfolding meaning
meaning_append s [] ys = refl
meaning_append s (x ∷ xs) ys = ap (λ z. item_of s x ∷ z) (meaning_append s xs ys)

-- ---- values that are no refusals

judged_fine : (ds : List Detail) (r : Reads) → Every Fine ds → judged ds r ≡ r
unfolding judged
judged_fine [] r f = refl
judged_fine (d ∷ ds) r f = rw f.0.1 (judged_fine ds r f.1)

fine_judged : (ds : List Detail) (r : Reads) (n : ℕ) (rs : List Row) → judged ds r ≡ got n rs → Every Fine ds
unfolding judged
fine_judged [] r n rs e = tt
fine_judged (d ∷ ds) r n rs e = go d.value refl e (fine_judged ds r n rs)
  where
    go : (v : Value) → d.value ≡ v → elim v as (λ _. Reads) [ Ok x ↦ judged ds r | Err m ↦ refuse (number_of m) (value_place d) ] ≡ got n rs → (judged ds r ≡ got n rs → Every Fine ds)
        → Fine d × Every Fine ds
    go (Ok x) p e ih = ((x, p), ih e)
    go (Err m) p e ih = absurd (let z : ◌≡◌ {A = ℕ} 0 1 = cc in omega arith)

entry_fine : (s : List ℕ) (n : ℕ) (f : Form) (rs : List Row) → form_of s ≡ To n f → entry_of s ≡ got n rs → Every Fine f.details
unfolding entry_of settled
entry_fine s n f rs p e = fine_judged f.details (got n (rows_of s n f)) n rs (rw p at e)

entry_got : (s : List ℕ) (n : ℕ) (f : Form) → form_of s ≡ To n f → Every Fine f.details → entry_of s ≡ got n (rows_of s n f)
unfolding entry_of settled
entry_got s n f p g = rw p (judged_fine f.details (got n (rows_of s n f)) g)

-- ---- steps of plain reading

read_on : (f a l n : ℕ) (t : List ℕ) (rs : List Row) → 0 < length t → entry_of t ≡ got n rs
    → read_from (suc f) a l t ≡ after (moved a l rs) (read_from f (a + n) (l + feeds (take n t)) (drop n t))
unfolding read_from
read_on f a l n [] rs h e = absurd (omega arith)
read_on f a l n (b ∷ t) rs h e = rw (e, read_from)

-- what an accepted reading read first
read_inv : (f a l b : ℕ) (t : List ℕ) (rs : List Row) → read_from (suc f) a l (b ∷ t) ≡ accepted rs
    → (n : ℕ) × (xs : List Row) × (ys : List Row) × (entry_of (b ∷ t) ≡ got n xs) × (read_from f (a + n) (l + feeds (take n (b ∷ t))) (drop n (b ∷ t)) ≡ accepted ys) × (rs ≡ moved a l xs ++ ys)
unfolding read_from
read_inv f a l b t rs e = go (entry_of (b ∷ t)) refl e
  where
    go : (x : Reads) → entry_of (b ∷ t) ≡ x
        → elim x as (λ _. Reading) [ got n rs ↦ after (moved a l rs) (read_from f (a + n) (l + feeds (take n (b ∷ t))) (drop n (b ∷ t))) | refuse k p ↦ denied k (a + p) ] ≡ accepted rs
        → (n : ℕ) × (xs : List Row) × (ys : List Row) × (entry_of (b ∷ t) ≡ got n xs) × (read_from f (a + n) (l + feeds (take n (b ∷ t))) (drop n (b ∷ t)) ≡ accepted ys) × (rs ≡ moved a l xs ++ ys)
    go (got n xs) p q = let k = after_accepted (moved a l xs) _ rs q in (n, xs, k.0, p, k.1, k.2)
    go (refuse k z) p q = absurd (let y : ◌≡◌ {A = ℕ} 0 1 = cc in omega arith)

at_after : (S s : List ℕ) (a n : ℕ) → At S a s → n ≤ length s → At S (a + n) (drop n s)
at_after S s a n A h =
    let e : take n s ++ drop n s ≡ s = take-append-drop n s in
    let l : length (take n s) ≡ n = rw length-take (omega arith) in
    subst (λ z. At S (a + z) (drop n s)) l (at_next (take n s) (drop n s) (subst (At S a) (sym e) A))

-- ---- the whole

pub record Whole (s : List ℕ) (ms : List Item) (out : List ℕ) : Type 0 where
  pub is : printed 0 no_item ms ≡ out
  pub front : Boundary s out
  pub reads : (f a l : ℕ) → length out ≤ f → (rs : List Row) × (read_from f a l out ≡ accepted rs) × ((S : List ℕ) → At S a out → meaning S rs ≡ ms)
  pub first : ltb (kind_of ms) 20 ≡ true
  pub tidy : Tidy out

nothing_printed : printed 0 no_item [] ≡ []
unfolding printed closing
nothing_printed = refl

quiet_head : (m : Item) (ms : List Item) → quiet (m ∷ ms) ≡ true → (m.kind ≡ 1 → holds_quote m.text ≡ false) × (quiet ms ≡ true)
unfolding quiet
quiet_head m ms e =
    let a = not-true (eqb m.kind 1 && holds_quote m.text) (and_left (not (eqb m.kind 1 && holds_quote m.text)) (quiet ms) e) in
    (λ k. go (rw (eq-eqb m.kind 1 k) at a), and_right (not (eqb m.kind 1 && holds_quote m.text)) (quiet ms) e)
  where
    go : holds_quote m.text ≡ false → holds_quote m.text ≡ false
    go h = h

quiet_details : (s : List ℕ) (ds : List Detail) (ms : List Item) → quiet (items s ds ++ ms) ≡ true → quiet ms ≡ true
quiet_details s [] ms e = e
quiet_details s (d ∷ ds) ms e = quiet_details s ds ms (quiet_head (item_d s d) (items s ds ++ ms) e).1

pub blank_text : texted 1 ≡ true
unfolding texted
blank_text = refl

no_meaning : (S : List ℕ) → meaning S [] ≡ []
unfolding meaning
no_meaning S = refl

tidy_none : Tidy []
tidy_none = omega arith

accepted_none : (rs : List Row) → accepted [] ≡ accepted rs → rs ≡ []
accepted_none rs e = cc

quote_free : (s : List ℕ) (n : ℕ) (f : Form) → f.kind ≡ 1 → holds_quote (cond (texted f.kind) (between s 0 n) []) ≡ false → holds_quote (between s 0 n) ≡ false
quote_free s n f k h = subst (λ z. holds_quote (cond z (between s 0 n) []) ≡ false) (ap texted k ∙ blank_text) h

plain_inv : (s : List ℕ) (rs : List Row) → plain s ≡ accepted rs → (length s ≤ size_limit) × Tidy s × (read_from (length s) 0 1 s ≡ accepted rs)
unfolding plain part_at
plain_inv s rs e = go (leb (length s) size_limit) refl (ltb (clean s) (length s)) refl e
  where
    go : (b : Bool) → leb (length s) size_limit ≡ b → (c : Bool) → ltb (clean s) (length s) ≡ c → cond b (cond c (denied 2 (0 + clean s)) (read_from (length s) 0 1 s)) (denied 1 0) ≡ accepted rs
        → (length s ≤ size_limit) × Tidy s × (read_from (length s) 0 1 s ≡ accepted rs)
    go true x false y e = (leb-true (length s) size_limit x, ltb-false (clean s) (length s) y, e)
    go true x true y e = absurd (let z : ◌≡◌ {A = ℕ} 0 1 = cc in omega arith)
    go false x c y e = absurd (let z : ◌≡◌ {A = ℕ} 0 1 = cc in omega arith)

plain_made : (s : List ℕ) (rs : List Row) → length s ≤ size_limit → Tidy s → read_from (length s) 0 1 s ≡ accepted rs → plain s ≡ accepted rs
unfolding plain part_at
plain_made s rs l t e = rw (le-leb (length s) size_limit l, le-ltb (clean s) (length s) t) e

module _ (ends : Boundary [] [])
    (renew : (s : List ℕ) (n : ℕ) (f : Form) → form_of s ≡ To n f → Every Fine f.details → Tidy s → (f.kind ≡ 1 → holds_quote (between s 0 n) ≡ false) → Renewal s n f) where
  none : Whole [] [] []
  none = record { is = nothing_printed; front = ends; reads = λ f a l h. ([], read_nil f a l, λ S A. no_meaning S); first = refl; tidy = tidy_none }

  module _ (s : List ℕ) (m : Item) (ds ms : List Item) (r out : List ℕ) (R : Renewed s m ds r) (W : Whole r ms out) where
    M : Made (R.text ++ out) (form_of (R.text ++ out)) m.kind m.number ds out
    M = R.reads out W.front

    form : Form
    form = record { kind = m.kind; date = m.number; details = M.rows }

    -- the entry's rows in the output are its items again
    same_items : m.kind < 20 → meaning (R.text ++ out) (rows_of (R.text ++ out) M.to form) ≡ m ∷ ds
    unfolding form M
    same_items h =
        rows_items (R.text ++ out) M.to form h
        ∙ ap₂ (λ x y. x ∷ y) (ap (λ z. record { kind = m.kind; text = cond (texted m.kind) z []; other = []; number = m.number; bits = 0 })
        (at_between R.text out (at_start_lem (R.text ++ out)) M.rest) ∙ sym R.own) M.same

    reads_on : m.kind < 20 → (f a l : ℕ) → length (R.text ++ out) ≤ f
        → (rs : List Row) × (read_from f a l (R.text ++ out) ≡ accepted rs) × ((S : List ℕ) → At S a (R.text ++ out) → meaning S rs ≡ m ∷ (ds ++ ms))
    unfolding form M
    reads_on h zero a l k = absurd (omega (arith, length-append R.text out, R.some))
    reads_on h (suc f) a l k =
        let t = R.text ++ out in
        let xs = rows_of t M.to form in
        let p : M.to ≡ length R.text = at_place R.text out (at_start_lem t) M.rest ∙ omega arith in
        let W2 = W.reads f (a + M.to) (l + feeds (take M.to t)) (omega (arith, length-append R.text out, R.some)) in
        let e = entry_got t M.to form M.eq M.fine in (
          moved a l xs ++ W2.0,
          read_on f a l M.to t xs (omega (arith, length-append R.text out, R.some)) e
              ∙ ap (after (moved a l xs)) (ap (read_from f (a + M.to) (l + feeds (take M.to t))) M.rest.here ∙ W2.1),
          λ S A. meaning_append S (moved a l xs) W2.0 ∙ ap₂ (λ x y. x ++ y) (moved_items S t a l xs A ∙ same_items h)
              (W2.2 S (subst (λ z. At S (a + z) out) (sym p) (at_next R.text out A))),
        )

    one : m.kind < 20 → Whole s (m ∷ (ds ++ ms)) (R.text ++ out)
    unfolding closing
    one h = record {
      is = R.prints 0 no_item ms W.first ∙ ap (λ z. R.text ++ z) W.is;
      front = R.front out W.front;
      reads = reads_on h;
      first = lt-ltb m.kind 20 h;
      tidy = R.tidy out W.tidy;
    }

  whole : (f a l : ℕ) (s S : List ℕ) (rs : List Row) → At S a s → length s ≤ f → read_from f a l s ≡ accepted rs → quiet (meaning S rs) ≡ true → Tidy s
      → (out : List ℕ) × Whole s (meaning S rs) out
  unfolding read_from
  whole zero a l [] S rs A h e q t = ([], subst (λ z. Whole [] z []) (sym (ap (meaning S) (accepted_none rs e) ∙ no_meaning S)) none)
  whole zero a l (b ∷ s) S rs A h e q t = absurd (omega arith)
  whole (suc f) a l [] S rs A h e q t = ([], subst (λ z. Whole [] z []) (sym (ap (meaning S) (accepted_none rs e) ∙ no_meaning S)) none)
  whole (suc f) a l (b ∷ s) S rs A h e q t = step (b ∷ s) S a l f rs A h (read_inv f a l b s rs e) q t (λ a l u rs A h e q t. whole f a l u S rs A h e q t)
    where
      step : (s S : List ℕ) (a l f : ℕ) (rs : List Row) → At S a s → length s ≤ suc f
          → (n : ℕ) × (xs : List Row) × (ys : List Row) × (entry_of s ≡ got n xs) × (read_from f (a + n) (l + feeds (take n s)) (drop n s) ≡ accepted ys) × (rs ≡ moved a l xs ++ ys)
          → quiet (meaning S rs) ≡ true → Tidy s
          → ((a l : ℕ) (u : List ℕ) (rs : List Row) → At S a u → length u ≤ f → read_from f a l u ≡ accepted rs → quiet (meaning S rs) ≡ true → Tidy u → (out : List ℕ) × Whole u (meaning S rs) out)
          → (out : List ℕ) × Whole s (meaning S rs) out
      step s S a l f rs A h (n, xs, ys, e, g, p) q t ih =
          let F = entry_form s n xs e in
          let fo = F.0 in
          let low : fo.kind < 20 = omega (arith, form_kind_low s n fo F.1) in
          let sound = entry_sound s n xs e in
          let m = entry_item s n fo in
          let ds = items s fo.details in
          let ms = meaning S ys in
          let all : meaning S rs ≡ m ∷ (ds ++ ms) =
          ap (meaning S) p ∙ meaning_append S (moved a l xs) ys ∙ ap (λ z. z ++ ms) (moved_items S s a l xs A ∙ ap (meaning s) F.2 ∙ rows_items s n fo low) in
          let qs = quiet_head m (ds ++ ms) (subst (λ z. quiet z ≡ true) all q) in
          let B : At S (a + n) (drop n s) = at_after S s a n A sound.1 in
          let W = ih (a + n) (l + feeds (take n s)) (drop n s) ys B (omega (arith, length-drop n s)) g (quiet_details s fo.details ms qs.1) (tidy_drop n s t) in
          let R = renew s n fo F.1 (entry_fine s n fo xs F.1 e) t (λ k. quote_free s n fo k (qs.0 k)) in
          (R.text ++ W.0, subst (λ z. Whole s z (R.text ++ W.0)) (sym all) (one s m ds ms (drop n s) W.0 R W.1 low))

  pub claim : Claim
  unfolding plain part_at written
  claim s rs e q l =
      let a = plain_inv s rs e in
      let t : Tidy s = a.1 in
      let W = whole (length s) 0 1 s s rs (at_start_lem s) (omega arith) a.2 q t in
      let out = W.0 in
      let is : printed 0 no_item (meaning s rs) ≡ out = W.1.is in
      let r = W.1.reads (length out) 0 1 (omega arith) in
      let m : meaning out r.0 ≡ meaning s rs = r.2 out (at_start_lem out) in
      done s rs out r.0 is (plain_made out r.0 (subst (λ z. length z ≤ size_limit) is l) W.1.tidy r.1) m
    where
      done : (s : List ℕ) (rs : List Row) (out : List ℕ) (xs : List Row) → printed 0 no_item (meaning s rs) ≡ out → plain out ≡ accepted xs → meaning out xs ≡ meaning s rs → Rewritten s rs
      done s rs out xs is p m = record { rows = xs; reads = ap plain is ∙ p; same = ap (λ z. meaning z xs) is ∙ m; again = ap (λ z. printed 0 no_item (meaning z xs)) is ∙ ap (printed 0 no_item) m }
