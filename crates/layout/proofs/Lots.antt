-- Costs: what was read is written so that it reads again.
use Rattle.decimal.specs.Faults.{Value}
use Prim.Native.Nat.{ℕ, suc, ◌+◌, ◌-◌, ◌*◌, ◌^◌, ◌/◌}
use native.Mathlib.Omega.{arith}
use mathlib.Core.Path.{◌≡◌, refl, sym, ◌∙◌, ap, subst}
use mathlib.Core.Bool.{Bool, true, false, cond, and-false}
use mathlib.Core.List.{List, [], ◌∷◌, ◌++◌, append_assoc}
use mathlib.Core.Logic.{◌⊎◌, inl, inr}
use borrow.Author.Tests.{ne_eqb, le-leb}
use lib.Dec.{eqb}
use lib.ListN.{length, get_or, drop}
use Rattle.decimal.specs.Exact.{twos_of, exact}
use Rattle.decimal.specs.declared.Form.TheVariants.{Rounding}
use Rattle.text.specs.Bytes.{is_blank, bytes, is_digit, is_space}
use Rattle.text.specs.Run.{blanks}
use Rattle.text.specs.Answer.{Ans, To, Miss, ◌then◌, ◌and◌, ◌else◌}
use Rattle.text.specs.Leaves.{token, byte, date, dated, comma}
use Rattle.text.specs.Lines.{comma_at}
use Rattle.text.specs.Dates.{like_shape, date_shape, as_shape, date_at}
use Rattle.text.proofs.Ats.{At, at_next, at_one, at_byte, at_more, at_drop}
use Rattle.text.proofs.Inversions.{and_inv, then_inv, else_inv, to_inv}
use Rattle.text.proofs.TestLaws.{differ}
use Rattle.text.proofs.TokenEnds.{date_reach, byte_reach, run_reach, comma_reach}
use Rattle.amount.specs.Details.{named}
use Rattle.amount.specs.Literal.{in_literal, number, places, is_number, literal_as, unsigned, literal}
use Rattle.amount.specs.Expression.{expression, Arithmetic, combined, is_plus, is_times, goes_on, chain, products, sums, negation, in_group, group, groups, within, expression_in}
use Rattle.amount.specs.Amounts.{amount}
use Rattle.amount.specs.declared.detail.Detail.{Detail}
use Rattle.amount.proofs.LoneLiteral.{lone_product}
use Rattle.amount.proofs.ExpressionEnds.{goes_off}
use Rattle.row.specs.Details.{spanned, millionths}
use Rattle.posting.specs.Costs.{Lot, lot, inside, cost}
use Rattle.posting.proofs.PostingEnds.{cost_reach}
use Rattle.layout.specs.Meaning.{Item, texted, naming}
use Rattle.layout.specs.Written.{size_text, value_text, sum_text, amount_text, detail_text, kind_of, printed, digit, date_text, brace_end}
use Rattle.layout.proofs.Texts.{at_text}
use Rattle.layout.proofs.Numbers.{All, digit_is, count_digits, count_points, digit_literal, all_part, size_literal}
use Rattle.layout.proofs.Values.{Form, digit_blank, run_at, stops_at, Dull, no_expression, digit_minus, digit_space}
use Rattle.text.proofs.DayLaws.{Day, date_there}
use Rattle.text.specs.Every.{Every}
use Rattle.layout.proofs.Days.{date_reads}
use Rattle.layout.proofs.Tokens.{Currency}
use Rattle.layout.proofs.Neats.{Neat, neat_none, neat_join, neat_cons, neat_space, free_range, neat_value, neat_currency, neat_date}
use Rattle.layout.proofs.Readings.{item_d, items, Fine, Reads, skip_reads, then_reads, There}
use Rattle.layout.proofs.Marks.{reached, byte_reads, gap_misses, after_comma_lem, after_brace, brace_dull, comma_is}
use Rattle.layout.proofs.Parts.{IsSum, sum_item, amount_kind_lem, amount_was, amount_is}
use Rattle.layout.proofs.Bodies.{print_detail, value_blank}
use Rattle.layout.proofs.Balances.{byte_empty}
use Rattle.layout.proofs.Wordings.{date_misses}

-- ---- a date is no amount

-- digits are a literal
module _ {s : List ℕ} {i : ℕ} (b : ℕ) (ds t : List ℕ) (B : is_digit b ≡ true) (D : All is_digit ds) (o : in_literal (get_or t 0 0) ≡ false) (A : At s i ((b ∷ ds) ++ t)) where
  digits_value : Value
  digits_value = exact false (number 0 (b ∷ ds) * 1000000) (10 ^ places (b ∷ ds))

  digits_number : is_number (b ∷ ds) ≡ true
  unfolding is_number
  digits_number = rw (count_digits (b ∷ ds) (B, D), count_points (b ∷ ds) (B, D), le-leb 1 (suc (length ds)) (omega arith))

  digits_read : literal s i ≡ To (i + length (b ∷ ds)) digits_value
  unfolding literal unsigned literal_as digits_value
  digits_read =
      rw (
        at_byte A,
        digit_minus b B,
        stops_at s is_space i ((b ∷ ds) ++ t) A (digit_space b B),
        run_at s in_literal (b ∷ ds) t i A
            (digit_literal b B, all_part is_digit in_literal digit_literal ds D) o,
        at_text (b ∷ ds) t A,
        digits_number,
      )

module _ (s : List ℕ) (calc : Arithmetic) (g : ℕ → Ans Value) where
  -- a minus goes on
  minus_on : (k e f : ℕ) (v w : Value) → get_or s (blanks s e) 0 ≡ 45 → products calc g s (blanks s (blanks s e + 1)) ≡ To f w → (j : ℕ) (x : Value)
      → goes_on calc is_plus (products calc g s) s k (calc 45 v w) f ≡ To j x
      → goes_on calc is_plus (products calc g s) s (suc k) v e ≡ To j x
  unfolding goes_on is_plus ◌then◌ ◌else◌
  minus_on k e f v w b P j x G = rw (b, P, G)

minus_calm : (in_literal 45 ≡ false) × (is_times 45 ≡ false) × (is_blank 45 ≡ false)
unfolding in_literal is_digit is_times is_blank
minus_calm = (refl, refl, refl)

brace_calm : (in_literal 125 ≡ false) × (is_times 125 ≡ false) × (is_blank 125 ≡ false) × (is_plus 125 ≡ false)
unfolding in_literal is_digit is_times is_blank is_plus
brace_calm = (refl, refl, refl, refl)

-- the byte past no blanks
byte_there : {s : List ℕ} {i c : ℕ} {t : List ℕ} → is_blank c ≡ false → At s i (c ∷ t) → get_or s (blanks s i) 0 ≡ c
byte_there {s} {i} {c} {t} e A = rw (stops_at s is_blank i (c ∷ t) A e) (at_byte A)

module _ (s : List ℕ) (i p : ℕ) (t : List ℕ) (A : At s i (date_text p ++ (125 ∷ t))) where
  abbrev d : ℕ → ℕ
  d n = digit (p / n)

  calc : Arithmetic
  calc = combined Rounding

  g : ℕ → Ans Value
  g = group calc groups s

  t2 : List ℕ
  t2 = digit (p / 10) ∷ digit p ∷ 125 ∷ t

  t1 : List ℕ
  t1 = d 1000 ∷ d 100 ∷ 45 ∷ t2

  A0 : At s i ((d 10000000 ∷ d 1000000 ∷ d 100000 ∷ d 10000 ∷ []) ++ (45 ∷ t1))
  unfolding date_text t1 t2
  A0 = A

  A1 : At s (i + 4) (45 ∷ t1)
  A1 = at_next (d 10000000 ∷ d 1000000 ∷ d 100000 ∷ d 10000 ∷ []) (45 ∷ t1) A0

  A2 : At s (i + 4 + 1) ((d 1000 ∷ d 100 ∷ []) ++ (45 ∷ t2))
  unfolding t1
  A2 = at_one A1

  A3 : At s (i + 4 + 1 + 2) (45 ∷ t2)
  A3 = at_next (d 1000 ∷ d 100 ∷ []) (45 ∷ t2) A2

  A4 : At s (i + 4 + 1 + 2 + 1) ((digit (p / 10) ∷ digit p ∷ []) ++ (125 ∷ t))
  unfolding t2
  A4 = at_one A3

  A5 : At s (i + 4 + 1 + 2 + 1 + 2) (125 ∷ t)
  A5 = at_next (digit (p / 10) ∷ digit p ∷ []) (125 ∷ t) A4

  first : (v : Value) × (products calc g s i ≡ To (i + 4) v)
  first = (
    _,
    lone_product s (i + 4) _ calc g i (digits_read (d 10000000) (d 1000000 ∷ d 100000 ∷ d 10000 ∷ []) (45 ∷ t1) (digit_is (p / 10000000))
        (digit_is (p / 1000000), (digit_is (p / 100000), (digit_is (p / 10000), tt))) minus_calm.0 A0) (rw (byte_there minus_calm.2 A1) minus_calm.1),
  )

  second : (v : Value) × (products calc g s (i + 4 + 1) ≡ To (i + 4 + 1 + 2) v)
  second = (
    _,
    lone_product s (i + 4 + 1 + 2) _ calc g (i + 4 + 1) (digits_read (d 1000) (d 100 ∷ []) (45 ∷ t2) (digit_is (p / 1000)) (digit_is (p / 100), tt) minus_calm.0 A2)
        (rw (byte_there minus_calm.2 A3) minus_calm.1),
  )

  third : (v : Value) × (products calc g s (i + 4 + 1 + 2 + 1) ≡ To (i + 4 + 1 + 2 + 1 + 2) v)
  third = (
    _,
    lone_product s (i + 4 + 1 + 2 + 1 + 2) _ calc g (i + 4 + 1 + 2 + 1)
        (digits_read (digit (p / 10)) (digit p ∷ []) (125 ∷ t) (digit_is (p / 10)) (digit_is p, tt) brace_calm.0 A4) (rw (byte_there brace_calm.2 A5) brace_calm.1),
  )

  goes : (k : ℕ) → (v : Value) × (goes_on calc is_plus (products calc g s) s (suc (suc k)) first.0 (i + 4) ≡ To (i + 4 + 1 + 2 + 1 + 2) v)
  goes k =
      let v2 = calc 45 first.0 second.0 in
      let v3 = calc 45 v2 third.0 in
      let b1 = stops_at s is_blank (i + 4) (45 ∷ t1) A1 minus_calm.2 in
      let c1 = stops_at s is_blank (i + 4 + 1) _ A2 (digit_blank _ (digit_is (p / 1000))) in
      let b2 = stops_at s is_blank (i + 4 + 1 + 2) (45 ∷ t2) A3 minus_calm.2 in
      let c2 = stops_at s is_blank (i + 4 + 1 + 2 + 1) _ A4 (digit_blank _ (digit_is (p / 10))) in (
        v3,
        minus_on s calc g (suc k) (i + 4) (i + 4 + 1 + 2) first.0 second.0 (byte_there minus_calm.2 A1) (rw (b1, c1) second.1) (i + 4 + 1 + 2 + 1 + 2) v3
            (minus_on s calc g k (i + 4 + 1 + 2) (i + 4 + 1 + 2 + 1 + 2) v2 third.0 (byte_there minus_calm.2 A3) (rw (b2, c2) third.1) (i + 4 + 1 + 2 + 1 + 2) v3
            (goes_off s calc is_plus (products calc g s) k v3 (i + 4 + 1 + 2 + 1 + 2) (rw (byte_there brace_calm.2 A5) brace_calm.3))),
      )

  date_sum : (v : Value) × (expression s i ≡ To (i + 4 + 1 + 2 + 1 + 2) v)
  unfolding expression expression_in within in_group negation sums chain ◌then◌ ◌else◌ calc g goes first
  date_sum =
      let k = length s - 2 in
      let e : length s ≡ suc (suc k) = omega (arith, A1.fits) in
      ((goes k).0, rw (at_byte A0, digit_minus _ (digit_is (p / 10000000)), first.1, e) (goes k).1)

  date_no_amount : amount 26 s i ≡ Miss
  unfolding amount ◌then◌ ◌and◌
  date_no_amount = rw (date_sum.1, gap_misses brace_calm.2 A5)

-- ---- an amount is no date

literal_minus : (b : ℕ) → in_literal b ≡ true → eqb b 45 ≡ false
unfolding in_literal is_digit
literal_minus b e = ne_eqb b 45 (differ in_literal b 45 e refl)

space_digit : is_digit 32 ≡ false
unfolding is_digit
space_digit = refl

-- digits, points and commas up to a space are no date: its fifth byte is a minus
unlike_literal : (u t : List ℕ) → All in_literal u → like_shape date_shape (u ++ (32 ∷ t)) ≡ false
unfolding like_shape as_shape
unlike_literal [] t h = rw space_digit
unlike_literal (a ∷ []) t h = rw (space_digit, and-false (is_digit a))
unlike_literal (a ∷ b ∷ []) t h = rw (space_digit, and-false (is_digit b), and-false (is_digit a))
unlike_literal (a ∷ b ∷ c ∷ []) t h = rw (space_digit, and-false (is_digit c), and-false (is_digit b), and-false (is_digit a))
unlike_literal (a ∷ b ∷ c ∷ e ∷ []) t h = rw (and-false (is_digit e), and-false (is_digit c), and-false (is_digit b), and-false (is_digit a))
unlike_literal (a ∷ b ∷ c ∷ e ∷ f ∷ u) t h = rw (literal_minus f h.1.1.1.1.0, and-false (is_digit e), and-false (is_digit c), and-false (is_digit b), and-false (is_digit a))

minus_unlike : (t : List ℕ) → like_shape date_shape (45 ∷ t) ≡ false
unfolding like_shape as_shape is_digit
minus_unlike t = refl

value_no_date : {s : List ℕ} {i : ℕ} (v : ℕ) (t : List ℕ) → Form v → At s i (value_text v ++ (32 ∷ t)) → date s i ≡ Miss
unfolding date date_at dated
value_no_date {s} {i} v t F A = rw (A.here, ap (λ z. like_shape date_shape (z ++ (32 ∷ t))) F.text ∙ go F.minus)
  where
    go : (m : Bool) → like_shape date_shape (cond m (45 ∷ size_text F.size) (size_text F.size) ++ (32 ∷ t)) ≡ false
    go true = minus_unlike (size_text F.size ++ (32 ∷ t))
    go false = unlike_literal (size_text F.size) t (size_literal F.size)

-- ---- what stands between the braces

pub data Lotted : ℕ → List Item → Type 0 where
  bare : Lotted 0 []
  dated_lot : (p : ℕ) → Day p → Lotted p []
  summed : (v : ℕ) (c : List ℕ) → Form v → Currency c → Lotted 0 (sum_item 26 v c ∷ [])
  both : (v : ℕ) (c : List ℕ) (p : ℕ) → Form v → Currency c → Day p → Lotted p (sum_item 26 v c ∷ [])

module _ (s : List ℕ) (i e : ℕ) (t : List ℕ) (l : Lot) (A : At s i t) (f : Every Fine l.rows) where
  abbrev Goal : Type 0
  Goal = Lotted l.when (items s l.rows)

  lot_inv : (j : ℕ) (p : ℕ) (rs : List Detail) → ◌≡◌ {A = Ans Lot} (To j (lot p rs)) (To e l) → l ≡ lot p rs
  lot_inv j p rs h = cc

  sum_date : (p : ℕ) (rs : List Detail) → l ≡ lot p rs → IsSum 26 (items s rs) → Day p → Goal
  sum_date p rs q S D = subst (λ z. Lotted z.when (items s z.rows)) (sym q) (subst (Lotted p) (sym S.4) (both S.0 S.1 p S.2 S.3 D))

  alt_one : (amount 26 s i then λ a rs. comma {A = Detail} s a then λ b _. date s b then λ c d. To c (lot d rs)) ≡ To e l → Goal
  alt_one h =
      let a = then_inv (amount 26 s i) _ e l h in
      let b = then_inv (comma s a.0) _ e l a.3 in
      let c = then_inv (date s b.0) _ e l b.3 in
      let q = lot_inv c.0 c.1 a.1 c.3 in
      sum_date c.1 a.1 q (amount_was 26 amount_kind_lem A a.2 (subst (λ z. Every Fine z.rows) q f)).is (date_there s b.0 c.0 c.1 c.2).0

  alt_two : (date s i then λ a d. comma {A = Detail} s a then λ b _. amount 26 s b then λ c rs. To c (lot d rs)) ≡ To e l → Goal
  alt_two h =
      let a = then_inv (date s i) _ e l h in
      let b = then_inv (comma s a.0) _ e l a.3 in
      let c = then_inv (amount 26 s b.0) _ e l b.3 in
      let q = lot_inv c.0 a.1 c.1 c.3 in
      let B = reached {s = s} (date_reach s i (omega (arith, A.fits))) a.2 in
      let C = reached {s = s} (comma_reach s a.0 (omega (arith, B.fits))) b.2 in
      sum_date a.1 c.1 q (amount_was 26 amount_kind_lem C c.2 (subst (λ z. Every Fine z.rows) q f)).is (date_there s i a.0 a.1 a.2).0

  alt_three : (amount 26 s i then λ a rs. To a (lot 0 rs)) ≡ To e l → Goal
  alt_three h =
      let a = then_inv (amount 26 s i) _ e l h in
      let q = lot_inv a.0 0 a.1 a.3 in
      let S = (amount_was 26 amount_kind_lem A a.2 (subst (λ z. Every Fine z.rows) q f)).is in
      subst (λ z. Lotted z.when (items s z.rows)) (sym q) (subst (Lotted 0) (sym S.4) (summed S.0 S.1 S.2 S.3))

  alt_four : (date s i then λ a d. To a (lot d [])) ≡ To e l → Goal
  alt_four h =
      let a = then_inv (date s i) _ e l h in
      let q = lot_inv a.0 a.1 [] a.3 in
      subst (λ z. Lotted z.when (items s z.rows)) (sym q) (dated_lot a.1 (date_there s i a.0 a.1 a.2).0)

  pick : (x y : Ans Lot) → (x ≡ To e l → Goal) → (y ≡ To e l → Goal) → (x else y) ≡ To e l → Goal
  pick x y p q h = go (else_inv x y e l h)
    where
      go : (x ≡ To e l) ⊎ ((x ≡ Miss) × (y ≡ To e l)) → Goal
      go (inl h) = p h
      go (inr h) = q h.1

  inside_was : inside s i ≡ To e l → Goal
  unfolding inside
  inside_was = pick _ _ alt_one (pick _ _ alt_two (pick _ _ alt_three (pick _ _ alt_four (λ h. subst (λ z. Lotted z.when (items s z.rows)) (sym (lot_inv i 0 [] h)) bare))))

abbrev pub cost_item : ℕ → Item
cost_item p = record { kind = 28; text = []; other = []; number = p; bits = 0 }

abbrev pub IsCost : List Item → Type 0
IsCost ms = (p : ℕ) × (ns : List Item) × Lotted p ns × (ms ≡ cost_item p ∷ ns)

cost_item_lem : (s : List ℕ) (a e p : ℕ) → item_d s (named 28 a e p 0) ≡ cost_item p
unfolding texted naming spanned millionths twos_of
cost_item_lem s a e p = refl

pub cost_was : (s : List ℕ) (i j : ℕ) (t : List ℕ) (rs : List Detail) → At s i t → cost s i ≡ To j rs → Every Fine rs → There s j rs IsCost
unfolding cost
cost_was s i j t rs A h f =
    let C = reached {s = s} (cost_reach s i) (whole h) in
    let a = and_inv (byte 123 s i) _ j rs h in
    let B = reached {s = s} (byte_reach s i 123 (omega arith)) a.3 in
    let D = at_drop s (blanks s a.0) (run_reach is_blank s a.0 (omega (arith, B.fits))).1 in
    let b = then_inv (inside s (blanks s a.0)) _ j a.2 a.4 in
    let c = and_inv (byte 125 s (blanks s b.0)) _ j a.2 b.3 in
    let d = to_inv c.0 j _ c.2 c.4 in
    let l = b.1 in
    let p : rs ≡ named 28 i j l.when 0 ∷ l.rows =
    a.5 ∙ ap (λ z. z ++ a.2) (byte_empty 123 s i a.0 a.1 a.3) ∙ c.5 ∙ ap (λ z. z ++ c.2) (byte_empty 125 s (blanks s b.0) c.0 c.1 c.3) ∙ d.1
    ∙ ap (λ z. named 28 i z l.when 0 ∷ l.rows) d.0 in
    record {
      rest = drop j s;
      place = C;
      is = (l.when, items s l.rows, inside_was s (blanks s a.0) b.0 _ l D (subst (Every Fine) p f).1 b.2, ap (items s) p ∙ ap (λ m. m ∷ items s l.rows) (cost_item_lem s i j l.when));
    }
  where
    whole : (byte 123 s i and λ i'. inside s (blanks s i') then λ e l. byte 125 s (blanks s e) and λ f. To f (named 28 i f l.when 0 ∷ l.rows)) ≡ To j rs → cost s i ≡ To j rs
    whole h = h

-- ---- again

pub lot_text : {p : ℕ} {ns : List Item} → Lotted p ns → List ℕ
lot_text bare = []
lot_text (dated_lot p D) = date_text p
lot_text (summed v c F C) = value_text v ++ (32 ∷ c)
lot_text (both v c p F C D) = (value_text v ++ (32 ∷ c)) ++ (44 ∷ 32 ∷ date_text p)

pub record Inside (s : List ℕ) (i p : ℕ) (ns : List Item) (post : List ℕ) : Type 0 where
  pub to : ℕ
  pub rows : List Detail
  pub eq : inside s i ≡ To to (lot p rows)
  pub rest : At s to (125 ∷ post)
  pub same : items s rows ≡ ns
  pub fine : Every Fine rows

comma_misses : {s : List ℕ} {i : ℕ} {t : List ℕ} → At s i (125 ∷ t) → comma {A = Detail} s i ≡ Miss
unfolding comma comma_at token
comma_misses {s} {i} {t} A = rw (byte_there brace_calm.2 A)

brace_digit : is_digit 125 ≡ false
unfolding is_digit
brace_digit = refl

date_blank : (p : ℕ) (t : List ℕ) → is_blank (get_or (date_text p ++ t) 0 0) ≡ false
unfolding date_text
date_blank p t = digit_blank _ (digit_is (p / 10000000))

no_amount : (s : List ℕ) (i : ℕ) (t : List ℕ) → At s i t → Dull (get_or t 0 0) → amount 26 s i ≡ Miss
unfolding amount ◌then◌
no_amount s i t A D = rw (no_expression s i t A D)

inside_is : {s : List ℕ} {i p : ℕ} {ns : List Item} (L : Lotted p ns) (post : List ℕ) → At s i (lot_text L ++ (125 ∷ post)) → Inside s i p ns post
unfolding lot_text inside ◌then◌ ◌else◌ date_text
inside_is {s} {i} bare post A =
    let m : amount 26 s i ≡ Miss = no_amount s i (125 ∷ post) A brace_dull in
    record { to = i; rows = []; eq = rw (m, date_misses brace_digit A); rest = A; same = refl; fine = tt }
inside_is {s} {i} (dated_lot p D) post A =
    let m = date_no_amount s i p post A in
    let d = date_reads s i p D (125 ∷ post) A in
    let B = at_next (date_text p) (125 ∷ post) A in
    record { to = i + 10; rows = []; eq = rw (m, d, comma_misses B); rest = B; same = refl; fine = tt }
inside_is {s} {i} (summed v c F C) post A =
    let R = amount_is 26 amount_kind_lem v c (125 ∷ post) F C (after_brace post) A in
    let n = value_no_date v (c ++ (125 ∷ post)) F (at_more (value_text v) (32 ∷ c) (125 ∷ post) A) in
    record { to = R.to; rows = R.rows; eq = rw (R.eq, comma_misses R.rest, n); rest = R.rest; same = R.same; fine = R.fine }
inside_is {s} {i} (both v c p F C D) post A =
    let u : List ℕ = 44 ∷ 32 ∷ (date_text p ++ (125 ∷ post)) in
    let B : At s i ((value_text v ++ (32 ∷ c)) ++ u) = at_more (value_text v ++ (32 ∷ c)) (44 ∷ 32 ∷ date_text p) (125 ∷ post) A in
    let R = amount_is 26 amount_kind_lem v c u F C (after_comma_lem _) B in
    let K = comma_is (date_text p ++ (125 ∷ post)) (date_blank p (125 ∷ post)) R.rest in
    let d = date_reads s K.0 p D (125 ∷ post) K.2 in
    record { to = K.0 + 10; rows = R.rows; eq = rw (R.eq, K.1, d); rest = at_next (date_text p) (125 ∷ post) K.2; same = R.same; fine = R.fine }

lot_blank : {p : ℕ} {ns : List Item} (L : Lotted p ns) (post : List ℕ) → is_blank (get_or (lot_text L ++ (125 ∷ post)) 0 0) ≡ false
unfolding lot_text
lot_blank bare post = brace_calm.2
lot_blank (dated_lot p D) post = date_blank p (125 ∷ post)
lot_blank (summed v c F C) post = rw (append_assoc (value_text v) (32 ∷ c) (125 ∷ post)) (value_blank v _ F)
lot_blank (both v c p F C D) post =
    rw (append_assoc (value_text v ++ (32 ∷ c)) (44 ∷ 32 ∷ date_text p) (125 ∷ post), append_assoc (value_text v) (32 ∷ c) (44 ∷ 32 ∷ (date_text p ++ (125 ∷ post)))) (value_blank v _ F)

pub cost_is : {s : List ℕ} {i p : ℕ} {ns : List Item} (L : Lotted p ns) (post : List ℕ) → At s i (123 ∷ (lot_text L ++ (125 ∷ post))) → Reads s (cost s i) (cost_item p ∷ ns) post
unfolding cost
cost_is {s} {i} {p} {ns} L post A = skip_reads (byte_reads A) (λ j B. rw (stops_at s is_blank j (lot_text L ++ (125 ∷ post)) B (lot_blank L post)) (closing j (inside_is L post B)))
  where
    closing : (j : ℕ) → Inside s j p ns post → Reads s (inside s j then λ e l. byte 125 s (blanks s e) and λ f. To f (named 28 i f l.when 0 ∷ l.rows)) (cost_item p ∷ ns) post
    closing j I = then_reads _ I.eq (rw (stops_at s is_blank I.to (125 ∷ post) I.rest brace_calm.2) (skip_reads (byte_reads I.rest) (λ f E. record {
      to = f;
      rows = named 28 i f p 0 ∷ I.rows;
      eq = refl;
      rest = E;
      same = ap (λ m. m ∷ items s I.rows) (cost_item_lem s i f p) ∙ ap (λ z. cost_item p ∷ z) I.same;
      fine = ((record { minus = false; size = 0 }, refl), I.fine);
    })))

pub lot_neat : {p : ℕ} {ns : List Item} (L : Lotted p ns) → Neat (lot_text L)
unfolding lot_text
lot_neat bare = neat_none
lot_neat (dated_lot p D) = neat_date p
lot_neat (summed v c F C) = neat_join (value_text v) _ (neat_value v F) (neat_space c (neat_currency c C))
lot_neat (both v c p F C D) =
    neat_join (value_text v ++ (32 ∷ c)) _ (neat_join (value_text v) _ (neat_value v F) (neat_space c (neat_currency c C)))
    (neat_cons 44 _ (free_range 44 (omega arith) (omega arith)) (neat_space _ (neat_date p)))

day_some : (p : ℕ) → Day p → eqb p 0 ≡ false
day_some p D = ne_eqb p 0 (λ e. absurd (let f = D.from_day in omega arith))

pub lot_last : {p : ℕ} {ns : List Item} → Lotted p ns → Item
lot_last {p} bare = cost_item 0
lot_last (dated_lot p D) = cost_item p
lot_last (summed v c F C) = sum_item 26 v c
lot_last (both v c p F C D) = sum_item 26 v c

pub cost_print : {p : ℕ} {ns : List Item} (L : Lotted p ns) (k : ℕ) (prev : Item) (ds : List Item) → eqb (kind_of ds) 26 ≡ false
    → printed k prev (cost_item p ∷ (ns ++ ds)) ≡ 32 ∷ 123 ∷ (lot_text L ++ (125 ∷ printed k (lot_last L) ds))
unfolding lot_text lot_last detail_text amount_text brace_end sum_text bytes
cost_print bare k prev ds e = print_detail k prev (cost_item 0) ds refl ∙ rw e
cost_print (dated_lot p D) k prev ds e = print_detail k prev (cost_item p) ds refl ∙ rw (e, day_some p D) (ap (λ z. 32 ∷ 123 ∷ z) (append_assoc (date_text p) (125 ∷ []) (printed k (cost_item p) ds)))
cost_print (summed v c F C) k prev ds e =
    print_detail k prev (cost_item 0) (sum_item 26 v c ∷ ds) refl
    ∙ ap (λ z. 32 ∷ 123 ∷ z) (print_detail k (cost_item 0) (sum_item 26 v c) ds refl ∙ append_assoc (value_text v ++ (32 ∷ c)) (125 ∷ []) (printed k (sum_item 26 v c) ds))
cost_print (both v c p F C D) k prev ds e =
    let rest = printed k (sum_item 26 v c) ds in
    print_detail k prev (cost_item p) (sum_item 26 v c ∷ ds) refl ∙ ap (λ z. 32 ∷ 123 ∷ z) (print_detail k (cost_item p) (sum_item 26 v c) ds refl ∙ rw (day_some p D)
    (append_assoc (value_text v ++ (32 ∷ c)) (44 ∷ 32 ∷ (date_text p ++ (125 ∷ []))) rest ∙ ap (λ z. (value_text v ++ (32 ∷ c)) ++ (44 ∷ 32 ∷ z)) (append_assoc (date_text p) (125 ∷ []) rest)
    ∙ sym (append_assoc (value_text v ++ (32 ∷ c)) (44 ∷ 32 ∷ date_text p) (125 ∷ rest))))
