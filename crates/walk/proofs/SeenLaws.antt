-- What stands in the table of two rows after a posting was read is the posting of its rows, and is held by its bytes.
use Prim.Native.Nat.{ℕ, suc, ◌+◌, ◌*◌, ◌-◌, ◌≤◌, ◌<◌}
use native.Mathlib.Omega.{arith}
use mathlib.Core.Path.{◌≡◌, refl, sym, ◌∙◌, ap}
use mathlib.Core.Bool.{Bool, true, false, cond}
use mathlib.Core.List.{List, [], ◌∷◌, ◌++◌, map}
use borrow.Author.Tests.{lt-ltb, le-ltb, eq-eqb, ne_eqb, eqb-true}
use lib.Dec.{eqb}
use lib.ListN.{length, take, drop, length-drop}
use lib.Seq.{drop_at}
use Rattle.decimal.specs.Exact.{word_limit}
use Rattle.text.specs.Permitted.{size_limit}
use Rattle.amount.specs.declared.detail.Detail.{Detail}
use Rattle.row.specs.declared.table.Row.{Row}
use Rattle.row.specs.Row.{row_of, row_bytes, row_in, width}
use Rattle.row.specs.steps.Pouring.{pour, pour_at}
use Rattle.row.specs.Details.{spanned}
use Rattle.row.specs.steps.Writing.{laid}
use Rattle.row.proofs.PourLaws.{pour_fits, pour_at_zero, length_row_bytes}
use Rattle.row.proofs.ReadBack.{wrapped, row_in_lem, four_back, eight_back, bits_low}
use Rattle.row.specs.steps.Holding.{Held}
use Rattle.row.specs.Field.{field_limit}
use Rattle.text.proofs.Steps.{rest_of}
use Rattle.posting.proofs.StepRows.{Amounted, Post, Front}
use Rattle.walk.specs.Postings.{stated, unstated, posting}
use Rattle.walk.specs.steps.Walks.{posted_in}
use Rattle.walk.proofs.PostLaws.{Starts}

-- ---- the code: own is the first row, next the second

module _ (t : List ℕ) (n a e : ℕ) (own : Row) (eo : own ≡ row_in t) (ea : a ≡ own.start) (ee : e ≡ own.end) where
  pub seen_alone : n ≤ 1 → record { kind = 51; start = a; end = e; line = 0; p = 0; q = 0; bits = 0 } ≡ posted_in t n
  unfolding posted_in posting unstated
  seen_alone h = rw (le-ltb 1 n h, ea, ee, eo)

  module _ (h : 1 < n) (next : Row) (ex : next ≡ row_in (take (length t - width) (drop width t))) where
    en : next ≡ row_in (drop width t)
    en = ex ∙ ap row_in (rest_of t width)

    pub seen_other : (next.kind ≡ 26 → ⊥) → record { kind = 51; start = a; end = e; line = 0; p = 0; q = 0; bits = 0 } ≡ posted_in t n
    unfolding posted_in posting unstated
    seen_other l = rw (lt-ltb 1 n h, ← en, ne_eqb next.kind 26 l, ea, ee, eo)

    pub seen_amount : next.kind ≡ 26 → (p q v : ℕ) → p ≡ next.p → q ≡ next.q → v ≡ next.bits
        → record { kind = 50; start = a; end = e; line = 0; p = p; q = q; bits = v } ≡ posted_in t n
    unfolding posted_in posting stated
    seen_amount l p q v ep eq ev = rw (lt-ltb 1 n h, ← en, eq-eqb next.kind 26 l, ea, ee, ep, eq, ev, eo)

pub ruleset seen_laws = (seen_alone, seen_other, seen_amount)

-- ---- rows behind a posting that are no amount

abbrev pub Ahead : List Row → Type 0
Ahead [] = Unit {0}
Ahead (r ∷ rs) = r.kind ≡ 26 → ⊥

pub front_ahead : (from : ℕ) (ds : List Detail) (ys : List Row) → Front ds → Starts ys → Ahead (map (laid from) ds ++ ys)
unfolding laid row_of
front_ahead from [] [] h l = tt
front_ahead from [] (r ∷ ys) h l = λ e. omega arith
front_ahead from (x ∷ ds) ys h l = λ e. omega (arith, h)

posting_bare : (r : Row) (ys : List Row) → Ahead ys → posting r ys ≡ unstated r
unfolding posting
posting_bare r [] h = refl
posting_bare r (x ∷ ys) h = rw (ne_eqb x.kind 26 h)

either_low : (b : Bool) (from p n : ℕ) → from + n ≤ size_limit → p ≤ n → cond b (from + p) p < field_limit
either_low true from p n h l = omega arith
either_low false from p n h l = omega arith

-- ---- the posting of rows as they are read back from their bytes

stated_back : (x y : Row) → x.start < field_limit → x.end < field_limit → y.p < field_limit → y.q < field_limit → y.bits < word_limit
    → stated (wrapped x) (wrapped y) ≡ stated x y
unfolding stated wrapped
stated_back x y a b c d e = rw (four_back x.start a, four_back x.end b, four_back y.p c, four_back y.q d, eight_back y.bits e)

unstated_back : (x : Row) → x.start < field_limit → x.end < field_limit → unstated (wrapped x) ≡ unstated x
unfolding unstated wrapped
unstated_back x a b = rw (four_back x.start a, four_back x.end b)

stated_held : (x y : Row) → x.start < field_limit → x.end < field_limit → y.p < field_limit → y.q < field_limit → y.bits < word_limit → Held (stated x y)
unfolding stated
stated_held x y a b c d e = record { kind = omega arith; start = a; end = b; line = omega arith; p = c; q = d; bits = e }

unstated_held : (x : Row) → x.start < field_limit → x.end < field_limit → Held (unstated x)
unfolding unstated
unstated_held x a b = record { kind = omega arith; start = a; end = b; line = omega arith; p = omega arith; q = omega arith; bits = omega arith }

kind_back : (x : Row) → x.kind < field_limit → (wrapped x).kind ≡ x.kind
unfolding wrapped
kind_back x h = four_back x.kind h

posting_back : (x y : Row) → x.start < field_limit → x.end < field_limit → y.kind < field_limit
    → (y.kind ≡ 26 → (y.p < field_limit) × (y.q < field_limit) × (y.bits < word_limit)) → (rs : List Row)
    → (posting (wrapped x) (wrapped y ∷ []) ≡ posting x (y ∷ rs)) × Held (posting x (y ∷ rs))
unfolding posting
posting_back x y i j k low rs =
    let z = go (eqb y.kind 26) refl in
    (ap (λ (k : ℕ). cond (eqb k 26) (stated (wrapped x) (wrapped y)) (unstated (wrapped x))) (kind_back y k) ∙ z.0, z.1)
  where
    go : (b : Bool) → eqb y.kind 26 ≡ b
        → (cond b (stated (wrapped x) (wrapped y)) (unstated (wrapped x)) ≡ cond b (stated x y) (unstated x)) × Held (cond b (stated x y) (unstated x))
    go true w = let l = low (eqb-true y.kind 26 w) in (stated_back x y i j l.0 l.1 l.2, stated_held x y i j l.0 l.1 l.2)
    go false w = (unstated_back x i j, unstated_held x i j)

-- ---- a posting whose rows were poured into a table of two rows

module _ (from n : ℕ) (small : from + n ≤ size_limit) (x : Detail) where
  abbrev X : Row
  X = laid from x

  module _ (us : List Detail) (P : Post n x us) where
    x_start : X.start < field_limit
    unfolding laid row_of
    x_start = omega (arith, P.start)

    x_end : X.end < field_limit
    unfolding laid row_of
    x_end = omega (arith, P.end)

  -- with no row behind it in its step
  alone : (t u : List ℕ) (zs more : List Row) → length t ≡ 2 * width → Post n x [] → u ≡ pour_at 0 (map (laid from) (x ∷ []) ++ zs) t → Ahead more
      → (posted_in u 1 ≡ posting X more) × Held (posting X more)
  unfolding posted_in posting
  alone t u zs more len P e h =
      let b : u ≡ row_bytes X ++ pour zs (drop width t) = e ∙ pour_at_zero (X ∷ zs) t ∙ pour_fits X zs t (omega arith) in
      let o = x_start [] P in
      let c = x_end [] P in
      let z = posting_bare X more h in
      (ap unstated (ap row_in b ∙ row_in_lem X (pour zs (drop width t))) ∙ unstated_back X o c ∙ sym z, rw z (unstated_held X o c))

  module _ (y : Detail) (us : List Detail) (P : Post n x (y ∷ us)) where
    abbrev Y : Row
    Y = laid from y

    kind_is : Y.kind ≡ y.kind
    unfolding laid row_of
    kind_is = refl

    kind_low : y.kind < field_limit
    kind_low = omega (arith, P.others.0.1)

    module _ (k : y.kind ≡ 26) where
      abbrev A : Amounted n y
      A = P.amount k

      y_p : Y.p < field_limit
      unfolding laid row_of
      y_p = either_low (spanned y.kind) from y.p n small A.p_in

      y_q : Y.q < field_limit
      unfolding laid row_of
      y_q = either_low (spanned y.kind) from y.q n small A.q_in

      y_bits : Y.bits < word_limit
      unfolding laid row_of
      y_bits = bits_low y.value A.small

    module _ (t u : List ℕ) (zs : List Row) (len : length t ≡ 2 * width) (e : u ≡ pour_at 0 (map (laid from) (x ∷ y ∷ us) ++ zs) t) where
      abbrev last : List ℕ
      last = pour (map (laid from) us ++ zs) (drop width (drop width t))

      both : u ≡ row_bytes X ++ (row_bytes Y ++ last)
      both =
          e
          ∙ pour_at_zero (X ∷ Y ∷ map (laid from) us ++ zs) t
          ∙ pour_fits X (Y ∷ map (laid from) us ++ zs) t (omega arith)
          ∙ ap (λ (z : List ℕ). row_bytes X ++ z) (pour_fits Y (map (laid from) us ++ zs) (drop width t) (rw length-drop (omega arith)))

      first : row_in u ≡ wrapped X
      first = ap row_in both ∙ row_in_lem X (row_bytes Y ++ last)

      second : row_in (drop width u) ≡ wrapped Y
      second = ap (λ (z : List ℕ). row_in (drop width z)) both ∙ ap row_in (drop_at (row_bytes X) (row_bytes Y ++ last) width (length_row_bytes X)) ∙ row_in_lem Y last

      followed : (more : List Row) → (posted_in u (suc (suc (length us))) ≡ posting X (map (laid from) (y ∷ us) ++ more)) × Held (posting X (map (laid from) (y ∷ us) ++ more))
      unfolding posted_in
      followed more =
          let low : (Y.kind ≡ 26) → (Y.p < field_limit) × (Y.q < field_limit) × (Y.bits < word_limit) =
          λ k. (y_p (sym kind_is ∙ k), y_q (sym kind_is ∙ k), y_bits (sym kind_is ∙ k)) in
          let z = posting_back X Y (x_start (y ∷ us) P) (x_end (y ∷ us) P) (omega (arith, kind_is, kind_low)) low (map (laid from) us ++ more) in
          (rw (lt-ltb 1 (suc (suc (length us))) (omega arith), first, second) z.0, z.1)

  pub seen : (t u : List ℕ) (zs : List Row) → length t ≡ 2 * width → (us : List Detail) (more : List Row) → Post n x us → u ≡ pour_at 0 (map (laid from) (x ∷ us) ++ zs) t
      → Ahead more → (posted_in u (length (x ∷ us)) ≡ posting X (map (laid from) us ++ more)) × Held (posting X (map (laid from) us ++ more))
  seen t u zs len [] more P e h = alone t u zs more len P e h
  seen t u zs len (y ∷ us) more P e h = followed y us P t u zs len e more
