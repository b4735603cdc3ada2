-- The order of texts and of records, from what the code knows where it answers.
use Prim.Native.Nat.{ℕ, zero, suc, ◌+◌, ◌-◌, ◌≤◌, ◌<◌}
use native.Mathlib.Omega.{arith}
use mathlib.Core.Path.{◌≡◌, refl, sym, ap, ◌∙◌}
use mathlib.Core.Bool.{Bool, true, false, ◌&&◌}
use mathlib.Core.List.{List}
use borrow.Author.Tests.{eqb-true}
use lib.Dec.{eqb}
use lib.ListN.{length, get_or, take, drop, drop_of_length-le}
use Rattle.text.proofs.Steps.{drop_step}
use Rattle.text.proofs.TestLaws.{absurd_bool, and_left, and_right}
use Rattle.row.specs.declared.table.Row.{Row}
use Rattle.row.specs.Row.{fields_in}
use Rattle.order.specs.Records.{record_width}
use Rattle.access.specs.Spans.{span_text}
use Rattle.std.specs.declared.cmp.Ordering.{Ordering}
use Rattle.std.specs.declared.cmp.Ordering.TheVariants.{Less, Equal, Greater}
use Rattle.order.specs.Order.{◌next◌, numbers, texts, said, order_of}
use Rattle.order.specs.steps.Buffers.{said_in}
use Rattle.order.proofs.Orders.{numbers_less, numbers_same, numbers_more, cmp_numbers}
use Rattle.std.specs.Ordering.{is_ne, nat_cmp}
use Rattle.row.proofs.PourLaws.{le_or_lt}
use mathlib.Core.Logic.{⊎_elim}

-- ---- texts: r is the order of what is left from i on

module _ (r : Ordering) (x y : List ℕ) (i : ℕ) (v : r ≡ texts (drop i x) (drop i y)) where
  -- the first text ends there
  pub text_end : (o : Ordering) → length x ≤ i → i ≤ length x → i ≤ length y → o ≡ nat_cmp (length x) (length y) → o ≡ r
  unfolding texts
  text_end o h k l e = e ∙ cmp_numbers (length x) (length y) ∙ sym v'
    where
      v' : r ≡ numbers (length x) (length y)
      v' =
          v ∙ ap (λ z. texts z (drop i y)) (drop_of_length-le x h)
          ∙ ⊎_elim (λ (g : length y ≤ i). rw (drop_of_length-le y g) (sym (numbers_same (length x) (length y) (omega arith))))
          (λ (g : i < length y). rw (drop_step y i g) (sym (numbers_less (length x) (length y) (omega arith)))) (le_or_lt (length y) i)

  module _ (h : i < length x) where
    pub text_longer : length y ≤ i → Greater ≡ r
    unfolding texts
    text_longer k = sym (v ∙ rw (drop_of_length-le y k, drop_step x i h))

    module _ (k : i < length y) (o : Ordering) (e : o ≡ nat_cmp (get_or x i 0) (get_or y i 0)) where
      text_next : r ≡ o next texts (drop (i + 1) x) (drop (i + 1) y)
      unfolding texts
      text_next = v ∙ rw (drop_step x i h, drop_step y i k, e, cmp_numbers)

      pub text_differs : (b : Bool) → b ≡ is_ne o → b ≡ true → o ≡ r
      unfolding ◌next◌
      text_differs b f t = go o (sym f ∙ t) text_next
        where
          go : (o : Ordering) → is_ne o ≡ true → r ≡ o next texts (drop (i + 1) x) (drop (i + 1) y) → o ≡ r
          go Less g q = sym q
          go Equal g q = absurd_bool g
          go Greater g q = sym q

      pub text_on : (b : Bool) → b ≡ is_ne o → b ≡ false → r ≡ texts (drop (i + 1) x) (drop (i + 1) y)
      unfolding ◌next◌
      text_on b f t = go o (sym f ∙ t) text_next
        where
          go : (o : Ordering) → is_ne o ≡ false → r ≡ o next texts (drop (i + 1) x) (drop (i + 1) y) → r ≡ texts (drop (i + 1) x) (drop (i + 1) y)
          go Less g q = absurd_bool (sym g)
          go Equal g q = q
          go Greater g q = absurd_bool (sym g)

pub ruleset text_laws = (text_end, text_longer, text_differs, text_on)

-- ---- eight bytes at a time

byte_same : (x y : List ℕ) (i j : ℕ) → j ≡ i + 1 → i < length x → i < length y → eqb (get_or x i 0) (get_or y i 0) ≡ true
    → texts (drop i x) (drop i y) ≡ texts (drop j x) (drop j y)
unfolding texts ◌next◌
byte_same x y i j e h k f = rw (e, drop_step x i h, drop_step y i k, numbers_same (get_or x i 0) (get_or y i 0) (eqb-true _ _ f))

-- whether the bytes at i, and k behind it, are the same
abbrev sames : List ℕ → List ℕ → ℕ → ℕ → Bool
sames x y i zero = eqb (get_or x i 0) (get_or y i 0)
sames x y i (suc k) = sames x y i k && eqb (get_or x (i + suc k) 0) (get_or y (i + suc k) 0)

sames_on : (x y : List ℕ) (i k : ℕ) → i + suc k ≤ length x → i + suc k ≤ length y → sames x y i k ≡ true
    → texts (drop i x) (drop i y) ≡ texts (drop (i + suc k) x) (drop (i + suc k) y)
sames_on x y i zero h l e = byte_same x y i (i + 1) (omega arith) (omega arith) (omega arith) e
sames_on x y i (suc k) h l e =
    let b = eqb (get_or x (i + suc k) 0) (get_or y (i + suc k) 0) in
    sames_on x y i k (omega arith) (omega arith) (and_left (sames x y i k) b e)
    ∙ byte_same x y (i + suc k) (i + suc (suc k)) (omega arith) (omega arith) (omega arith) (and_right (sames x y i k) b e)

pub eight_same : (x y : List ℕ) (i : ℕ) → i + 8 ≤ length x → i + 8 ≤ length y → sames x y i 7 ≡ true
    → texts (drop i x) (drop i y) ≡ texts (drop (i + 8) x) (drop (i + 8) y)
eight_same x y i h l e = sames_on x y i 7 h l e

pub front_on : (r : Ordering) (x y : List ℕ) (i : ℕ) (b : Bool) → r ≡ texts (drop i x) (drop i y)
    → (b ≡ true → texts (drop i x) (drop i y) ≡ texts (drop (i + 8) x) (drop (i + 8) y)) → b ≡ true → r ≡ texts (drop (i + 8) x) (drop (i + 8) y)
front_on r x y i b v f e = v ∙ f e

pub ruleset front_laws = (front_on)

pub spans_told : (s x y : List ℕ) (a b c d : ℕ) (r : Ordering) → x ≡ span_text s a b → y ≡ span_text s c d → r ≡ texts x y
    → r ≡ texts (span_text s a b) (span_text s c d)
spans_told s x y a b c d r ex ey er = rw (er, ex, ey)

-- ---- a record's row, from its own bytes

pub row_there : (t : List ℕ) (a e : ℕ) (r : Row) → e ≡ a + record_width → r ≡ fields_in (take (e - a) (drop a t)) → r ≡ fields_in (take record_width (drop a t))
row_there t a e r h k =
    let w : e - a ≡ record_width = omega arith in
    rw w at k

-- ---- records, by their rows a and b: o and u are the orders of their texts

module _ (s x y : List ℕ) (a b : Row) (ea : a ≡ fields_in x) (eb : b ≡ fields_in y) where
  kinds_first : (o u : Ordering) → o ≡ texts (span_text s a.start a.end) (span_text s b.start b.end)
      → u ≡ texts (span_text s a.p a.q) (span_text s b.p b.q)
      → numbers a.kind b.kind next (o next u) ≡ order_of (said_in s x) (said_in s y)
  unfolding order_of said
  kinds_first o u eo eu = rw (eo, eu, ea, eb)

  pub kind_before : a.kind < b.kind → Less ≡ order_of (said_in s x) (said_in s y)
  unfolding ◌next◌
  kind_before m = rw (numbers_less a.kind b.kind m) at (kinds_first _ _ refl refl)

  pub kind_after : b.kind < a.kind → Greater ≡ order_of (said_in s x) (said_in s y)
  unfolding ◌next◌
  kind_after m = rw (numbers_more a.kind b.kind m) at (kinds_first _ _ refl refl)

  module _ (m : b.kind ≤ a.kind) (n : a.kind ≤ b.kind) (o : Ordering) (eo : o ≡ texts (span_text s a.start a.end) (span_text s b.start b.end)) where
    kinds_same : (u : Ordering) → u ≡ texts (span_text s a.p a.q) (span_text s b.p b.q) → o next u ≡ order_of (said_in s x) (said_in s y)
    unfolding ◌next◌
    kinds_same u eu = rw (numbers_same a.kind b.kind (omega arith)) at (kinds_first o u eo eu)

    pub span_before : o ≡ Less → Less ≡ order_of (said_in s x) (said_in s y)
    unfolding ◌next◌
    span_before e = rw e at (kinds_same _ refl)

    pub span_after : o ≡ Greater → Greater ≡ order_of (said_in s x) (said_in s y)
    unfolding ◌next◌
    span_after e = rw e at (kinds_same _ refl)

    pub span_same : (u : Ordering) → o ≡ Equal → u ≡ texts (span_text s a.p a.q) (span_text s b.p b.q) → u ≡ order_of (said_in s x) (said_in s y)
    unfolding ◌next◌
    span_same u e eu = rw e at (kinds_same u eu)

pub ruleset record_laws = (kind_before, kind_after, span_before, span_after, span_same)
