-- What the row of a detail writes, by its kind.
use Prim.Native.Nat.{ℕ, ◌≤◌, ◌<◌}
use native.Mathlib.Omega.{arith}
use mathlib.Core.Path.{◌≡◌, refl, subst}
use mathlib.Core.Bool.{Bool, true, false, cond, ◌&&◌, not}
use mathlib.Core.List.{List, [], ◌∷◌, ◌++◌, append_assoc}
use mathlib.Core.Logic.{⊎_elim}
use borrow.Author.Tests.{le-ltb, eq-eqb, ne_eqb}
use lib.Dec.{eqb}
use Rattle.text.specs.Bytes.{bytes, between}
use Rattle.row.specs.declared.table.Row.{Row}
use Rattle.row.specs.Details.{spanned}
use Rattle.row.proofs.PourLaws.{le_or_lt}
use Rattle.layout.specs.Meaning.{item_for, item_of, texted, naming}
use Rattle.layout.specs.Written.{value_text, date_text, quotes, sum_text, brace_end, amount_text, meta_text, posting_text, detail_text}
use Rattle.rewrite.specs.steps.Putting.{Put, ended}
use Rattle.rewrite.specs.steps.Pieces.{Flagged, cost_text, posting_line, meta_line}
use Rattle.rewrite.proofs.PutLaws.{put_none, join}

-- ---- texts and marks

pub one_put : {b : ℕ} {t u v ys : List ℕ} {at r q : ℕ} → Put t at (b ∷ []) u r → Put u r ys v q → Put t at (b ∷ ys) v q
one_put p k = join p k

pub mark_put : {a b : ℕ} {t u v ys : List ℕ} {at r q : ℕ} → Put t at (a ∷ b ∷ []) u r → Put u r ys v q → Put t at (a ∷ b ∷ ys) v q
mark_put p k = join p k

pub quoted_put : {t u v w ys : List ℕ} {at r q l : ℕ} → Put t at (34 ∷ []) u r → Put u r ys v q → Put v q (34 ∷ []) w l → Put t at (quotes ys) w l
unfolding quotes
quoted_put p k m = join p (join k m)

pub sum_put : {t u v xs ys : List ℕ} {at r q : ℕ} → Put t at xs u r → Put u r (32 ∷ ys) v q → Put t at (xs ++ (32 ∷ ys)) v q
sum_put p k = join p k

pub tolerance_put : {t u v w o xs ys : List ℕ} {at r q l m : ℕ} → Put t at (bytes " ~ ") u r → Put u r xs v q → Put v q (32 ∷ []) w l → Put w l ys o m
    → Put t at (bytes " ~ " ++ (xs ++ (32 ∷ ys))) o m
tolerance_put p k m n = join p (join k (join m n))

pub ruleset text_laws = (one_put, mark_put, quoted_put, sum_put, tolerance_put)

-- the text that a row names

pub naming_is : (k : ℕ) (r : Bool) → r ≡ spanned k → (r && not (eqb k 36)) ≡ naming k
unfolding naming
naming_is k r e = rw e

module _ (s : List ℕ) (x : Row) (t u : List ℕ) (at r : ℕ) (b : Bool) (e : b ≡ naming x.kind) where
  pub other_there : b ≡ true → Put t at (between s x.p x.q) u r → Put t at (item_of s x).other u r
  unfolding item_of
  other_there h p = rw (← e, h) p

  pub other_none : b ≡ false → Put t at (item_of s x).other t at
  unfolding item_of
  other_none h = rw (← e, h) (put_none t at)

pub ruleset other_laws = (naming_is, other_there, other_none)

-- ---- what closes a cost

module _ (n : ℕ) (t u : List ℕ) (at r : ℕ) where
  pub brace_none : (sep : List ℕ) → n ≡ 0 → Put t at (125 ∷ []) u r → Put t at (ended sep n) u r
  unfolding ended
  brace_none sep z p = rw (eq-eqb n 0 z) p

  pub brace_comma : (c : Bool) {v w : List ℕ} {q l : ℕ} → (n ≡ 0 → ⊥) → c ≡ true → Put t at (44 ∷ 32 ∷ []) u r → Put u r (date_text n) v q → Put v q (125 ∷ []) w l
      → Put t at (ended (cond c (bytes ", ") []) n) w l
  unfolding ended bytes
  brace_comma c z e p k m = rw (ne_eqb n 0 z, e) (join p (join k m))

  pub brace_date : (c : Bool) {v : List ℕ} {q : ℕ} → (n ≡ 0 → ⊥) → c ≡ false → Put t at (date_text n) u r → Put u r (125 ∷ []) v q
      → Put t at (ended (cond c (bytes ", ") []) n) v q
  unfolding ended
  brace_date c z e p k = rw (ne_eqb n 0 z, e) (join p k)

pub ruleset brace_laws = (brace_none, brace_comma, brace_date)

module _ (n next : ℕ) (t u : List ℕ) (at r : ℕ) (p : Put t at (32 ∷ 123 ∷ []) u r) where
  pub cost_open : next ≡ 26 → Put t at (cost_text n next) u r
  unfolding cost_text bytes
  cost_open e = rw e p

  pub cost_closed : {v : List ℕ} {q : ℕ} → (next ≡ 26 → ⊥) → Put u r (ended [] n) v q → Put t at (cost_text n next) v q
  unfolding cost_text bytes
  cost_closed e k = rw (ne_eqb next 26 e) (join p k)

pub ruleset cost_laws = (cost_open, cost_closed)

-- ---- lines

module _ (f : ℕ) (account t u : List ℕ) (at r : ℕ) (p : Put t at (10 ∷ 32 ∷ 32 ∷ []) u r) where
  pub posting_plain : {v : List ℕ} {q : ℕ} → f ≡ 0 → Put u r account v q → Put t at (posting_line f account) v q
  unfolding posting_line bytes
  posting_plain e k = rw e (join p k)

  pub posting_flag_lem : {b : ℕ} {v w : List ℕ} {q l : ℕ} → (f ≡ 0 → ⊥) → b ≡ f → Put u r (b ∷ 32 ∷ []) v q → Put v q account w l → Put t at (posting_line f account) w l
  unfolding posting_line bytes
  posting_flag_lem e g k m = rw (ne_eqb f 0 e, ← g) (join p (join k m))

pub ruleset posting_laws = (posting_plain, posting_flag_lem)

pub key_put : {t u v w k : List ℕ} {at r q l : ℕ} → Put t at (10 ∷ 32 ∷ 32 ∷ []) u r → Put u r k v q → Put v q (58 ∷ 32 ∷ []) w l → Put t at (bytes "\n  " ++ (k ++ bytes ": ")) w l
unfolding bytes
key_put p k m = join p (join k m)

module _ (s : List ℕ) (x : Row) (key t u : List ℕ) (at r : ℕ) (p : Put t at (bytes "\n  " ++ (key ++ bytes ": ")) u r) where
  line : {xs o : List ℕ} {n : ℕ} → Put u r xs o n → Put t at (bytes "\n  " ++ (key ++ (bytes ": " ++ xs))) o n
  unfolding bytes
  line {xs} {o} {n} z = subst (λ (y : List ℕ). Put t at (bytes "\n  " ++ y) o n) (append_assoc key (bytes ": ") xs) (join p z)

  pub meta_string : {o : List ℕ} {n : ℕ} → x.kind ≡ 35 → Put u r (quotes (between s x.p x.q)) o n → Put t at (meta_line key (item_of s x)) o n
  unfolding meta_line item_of naming spanned
  meta_string e z = rw e (line z)

  pub meta_value : {o : List ℕ} {n : ℕ} → x.kind ≡ 36 → Put u r (value_text x.bits) o n → Put t at (meta_line key (item_of s x)) o n
  unfolding meta_line item_of
  meta_value e z = rw e (line z)

  pub meta_name : {o : List ℕ} {n : ℕ} → (x.kind ≡ 35 → ⊥) → (x.kind ≡ 36 → ⊥) → Put u r (item_of s x).other o n → Put t at (meta_line key (item_of s x)) o n
  unfolding meta_line item_of
  meta_name e f z = rw (ne_eqb x.kind 35 e, ne_eqb x.kind 36 f) (line z)

pub ruleset meta_laws = (key_put, meta_string, meta_value, meta_name)

texted_high : (k : ℕ) → 31 ≤ k → texted k ≡ true
unfolding texted
texted_high k h =
    rw (
      ne_eqb k 1 (λ z. omega arith),
      le-ltb k 20 (omega arith),
      ne_eqb k 26 (λ z. omega arith),
      ne_eqb k 27 (λ z. omega arith),
      ne_eqb k 28 (λ z. omega arith),
      ne_eqb k 29 (λ z. omega arith),
      ne_eqb k 30 (λ z. omega arith),
    )

meta_forms : (b c : Bool) (key q v o : List ℕ) → bytes "\n  " ++ (key ++ (bytes ": " ++ cond b q (cond c v o)))
    ≡ cond b (10 ∷ 32 ∷ 32 ∷ (key ++ (58 ∷ 32 ∷ q))) (cond c (10 ∷ 32 ∷ 32 ∷ (key ++ (58 ∷ 32 ∷ v))) (10 ∷ 32 ∷ 32 ∷ (key ++ (58 ∷ 32 ∷ o))))
unfolding bytes
meta_forms true c key q v o = refl
meta_forms false true key q v o = refl
meta_forms false false key q v o = refl

-- a detail behind the strings, currencies and postings is metadata
meta_same : (s : List ℕ) (prev x : Row) (next : ℕ) → 31 ≤ x.kind → (x.kind ≡ 31 → ⊥) → (x.kind ≡ 32 → ⊥) → (x.kind ≡ 33 → ⊥) → (x.kind ≡ 34 → ⊥)
    → meta_line (between s x.start x.end) (item_of s x) ≡ detail_text (item_of s prev) (item_of s x) next
unfolding detail_text meta_text meta_line item_of
meta_same s prev x next h a b c d =
    rw (
      ne_eqb x.kind 20 (λ z. omega arith),
      ne_eqb x.kind 25 (λ z. omega arith),
      ne_eqb x.kind 21 (λ z. omega arith),
      ne_eqb x.kind 22 (λ z. omega arith),
      ne_eqb x.kind 32 b,
      ne_eqb x.kind 34 d,
      ne_eqb x.kind 23 (λ z. omega arith),
      ne_eqb x.kind 24 (λ z. omega arith),
      ne_eqb x.kind 26 (λ z. omega arith),
      ne_eqb x.kind 27 (λ z. omega arith),
      ne_eqb x.kind 28 (λ z. omega arith),
      ne_eqb x.kind 29 (λ z. omega arith),
      ne_eqb x.kind 30 (λ z. omega arith),
      ne_eqb x.kind 31 a,
      ne_eqb x.kind 33 c,
      texted_high x.kind h,
    )
    (meta_forms (eqb x.kind 35) (eqb x.kind 36) (between s x.start x.end) _ _ _)

-- ---- details by their kinds

module _ (s : List ℕ) (prev x : Row) (next : ℕ) (t : List ℕ) (at : ℕ) where
  abbrev Goal : List ℕ → ℕ → Type 0
  Goal u r = Put t at (detail_text (item_of s prev) (item_of s x) next) u r

  -- of a kind that is known
  pub detail_known : (n : ℕ) (w : List ℕ) {u : List ℕ} {r : ℕ} → x.kind ≡ n
      → detail_text (item_of s prev) (item_for s n x.start x.end x.p x.q x.bits) next ≡ w → Put t at w u r → Goal u r
  unfolding item_of
  detail_known n w e f p = rw (e, f) p

  -- an amount, by what stands before and behind it
  module _ (e : x.kind ≡ 26) where
    pub amount_cost : {u v : List ℕ} {r q : ℕ} → prev.kind ≡ 28 → Put t at (value_text x.bits ++ (32 ∷ between s x.p x.q)) u r → Put u r (ended (cond true (bytes ", ") []) prev.p) v q
        → Goal v q
    unfolding detail_text amount_text sum_text brace_end ended item_of naming spanned
    amount_cost f p k = rw (e, f) (join p k)

    pub amount_value : {u v : List ℕ} {r q : ℕ} → (prev.kind ≡ 28 → ⊥) → next ≡ 27 → Put t at (32 ∷ []) u r → Put u r (value_text x.bits) v q → Goal v q
    unfolding detail_text amount_text item_of
    amount_value f g p k = rw (e, ne_eqb prev.kind 28 f, g) (join p k)

    pub amount_sum : {u v : List ℕ} {r q : ℕ} → (prev.kind ≡ 28 → ⊥) → (next ≡ 27 → ⊥) → Put t at (32 ∷ []) u r → Put u r (value_text x.bits ++ (32 ∷ between s x.p x.q)) v q → Goal v q
    unfolding detail_text amount_text sum_text item_of naming spanned
    amount_sum f g p k = rw (e, ne_eqb prev.kind 28 f, ne_eqb next 27 g) (join p k)

  -- the last kinds of a range
  pub words_plain : {u : List ℕ} {r : ℕ} → 20 ≤ x.kind → x.kind < 26 → (x.kind ≡ 21 → ⊥) → (x.kind ≡ 22 → ⊥) → (x.kind ≡ 23 → ⊥) → (x.kind ≡ 24 → ⊥)
      → Put t at (32 ∷ between s x.start x.end) u r → Goal u r
  unfolding detail_text item_of texted
  words_plain g h a b c d p =
      ⊎_elim (λ (l : x.kind ≤ 20). let z : x.kind ≡ 20 = omega arith in rw z p) (λ (l : 20 < x.kind). let z : x.kind ≡ 25 = omega arith in rw z p) (le_or_lt x.kind 20)

  pub money_price : {u v : List ℕ} {r q : ℕ} → x.kind ≡ 29 → Put t at (bytes " @ ") u r → Put u r (value_text x.bits ++ (32 ∷ between s x.p x.q)) v q → Goal v q
  unfolding detail_text sum_text item_of naming spanned
  money_price e p k = rw e (join p k)

  pub money_total : {u v : List ℕ} {r q : ℕ} → 26 ≤ x.kind → x.kind < 31 → (x.kind ≡ 26 → ⊥) → (x.kind ≡ 27 → ⊥) → (x.kind ≡ 28 → ⊥) → (x.kind ≡ 29 → ⊥)
      → Put t at (bytes " @@ ") u r → Put u r (value_text x.bits ++ (32 ∷ between s x.p x.q)) v q → Goal v q
  unfolding detail_text sum_text item_of naming spanned
  money_total g h a b c d p k = let z : x.kind ≡ 30 = omega arith in rw z (join p k)

  -- a currency behind another
  pub lines_next : {u v : List ℕ} {r q : ℕ} → x.kind ≡ 31 → prev.kind ≡ 31 → Put t at (44 ∷ 32 ∷ []) u r → Put u r (between s x.start x.end) v q → Goal v q
  unfolding detail_text item_of texted bytes
  lines_next e f p k = rw (e, f) (join p k)

  pub lines_first : {u : List ℕ} {r : ℕ} → x.kind ≡ 31 → (prev.kind ≡ 31 → ⊥) → Put t at (32 ∷ between s x.start x.end) u r → Goal u r
  unfolding detail_text item_of texted
  lines_first e f p = rw (e, ne_eqb prev.kind 31 f) p

  pub lines_posting : {u : List ℕ} {r : ℕ} → x.kind ≡ 33 → Put t at (posting_line x.p (between s x.start x.end)) u r → Goal u r
  unfolding detail_text posting_text posting_line bytes item_of texted spanned
  lines_posting e p = rw e p

  pub lines_meta : {u : List ℕ} {r : ℕ} → 31 ≤ x.kind → (x.kind ≡ 31 → ⊥) → (x.kind ≡ 32 → ⊥) → (x.kind ≡ 33 → ⊥) → (x.kind ≡ 34 → ⊥)
      → Put t at (meta_line (between s x.start x.end) (item_of s x)) u r → Goal u r
  lines_meta {u} {r} h a b c d p = subst (λ (z : List ℕ). Put t at z u r) (meta_same s prev x next h a b c d) p

-- a posting's flag
pub flag_low : (x : Row) → Flagged x → x.kind ≡ 33 → x.p < 256
flag_low x f e = f.low e

pub ruleset detail_laws = (detail_known, amount_cost, amount_value, amount_sum, words_plain, money_price, money_total, lines_next, lines_first, lines_posting, lines_meta, flag_low)
