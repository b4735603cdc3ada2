-- What the code keeps of a literal settles as the literal of the rule.
use Rattle.decimal.specs.Faults.{Value}
use Prim.Native.Nat.{ℕ, suc, ◌+◌, ◌-◌, ◌*◌, ◌^◌, ◌<◌}
use mathlib.Core.Path.{◌≡◌, refl, ap, ◌∙◌}
use mathlib.Core.Bool.{Bool, true, false, cond, ◌&&◌, ◌||◌, or-true, or-false, and-true, and-false}
use mathlib.Core.List.{List, [], ◌∷◌}
use native.Mathlib.Omega.{arith}
use native.Mathlib.Nat.{add-zero, zero-add}
use native.Mathlib.Decide.{dec_lt}
use lib.Dec.{eqb, leb}
use lib.ListN.{length, take, drop, get_or}
use borrow.Author.Tests.{le-leb, lt-leb, ne_eqb}
use Rattle.decimal.specs.Exact.{exact}
use Rattle.text.specs.Bytes.{is_digit, is_space, between}
use Rattle.text.specs.Run.{run_to}
use Rattle.text.specs.Answer.{Ans, To, Miss}
use Rattle.text.proofs.Steps.{drop_step, get_d_past, back, run_on, run_stops, run_ends, run_from_lem}
use Rattle.amount.specs.Literal.{in_literal, is_point, count, number, places, is_number, literal_as, unsigned}
use Rattle.amount.specs.declared.literal.Whole.{Whole}
use Rattle.amount.specs.steps.Kept.{whole_from, fraction_from, ended, whole_literal, point_literal}
use Rattle.amount.proofs.Digits.{Keeps, none_kept, whole_more, place_more, past_more, finished}
use Rattle.amount.proofs.ByteSteps.{digit_range, Byte, digit, comma, point, other, byte, whole_digit, whole_comma, whole_stops, whole_ends, place_digit, past_digit, fraction_comma, fraction_stops, fraction_ends}

-- ---- the bytes of a literal from a place on

abbrev held : List ℕ → ℕ → List ℕ
held s i = between s i (run_to in_literal s i)

held_on : (s : List ℕ) (i : ℕ) → i < length s → in_literal (get_or s i 0) ≡ true → held s i ≡ get_or s i 0 ∷ held s (i + 1)
held_on s i h e =
    let r = run_to in_literal s (i + 1) in
    let l = run_from_lem in_literal s (i + 1) r refl in
    rw (run_on in_literal s i h e, drop_step s i h)
    (ap (λ k. take k (get_or s i 0 ∷ drop (i + 1) s)) {x = r - i} {y = suc (r - (i + 1))} (omega arith))

held_none : (s : List ℕ) (i : ℕ) → run_to in_literal s i ≡ i → held s i ≡ []
held_none s i e = rw e (ap (λ k. take k (drop i s)) {x = i - i} {y = 0} (omega arith))

-- ---- the rest of a literal's reading, byte by byte

-- from the place i on, after digits of the number n, where `seen` says whether there were any
unfoldable before : Bool → Bool → ℕ → List ℕ → ℕ → Ans Value
before m seen n s i =
    let t = held s i in
    cond ((seen || leb 1 (count is_digit t)) && leb (count is_point t) 1) (To (run_to in_literal s i) (exact m (number n t * 1000000) (10 ^ places t))) Miss

-- and after a point and k places
unfoldable after : Bool → Bool → ℕ → ℕ → List ℕ → ℕ → Ans Value
after m seen n k s i =
    let t = held s i in
    cond ((seen || leb 1 (count is_digit t)) && leb (suc (count is_point t)) 1) (To (run_to in_literal s i) (exact m (number n t * 1000000) (10 ^ (k + count is_digit t)))) Miss

one_more_lem : (n : ℕ) → leb 1 (suc n) ≡ true
one_more_lem n = le-leb 1 (suc n) (omega arith)

module _ (m seen : Bool) (n k : ℕ) (s : List ℕ) (i : ℕ) where
  module _ (l : i < length s) (r : in_literal (get_or s i 0) ≡ true) where
    before_digit : is_digit (get_or s i 0) ≡ true → eqb (get_or s i 0) 46 ≡ false → before m seen n s i ≡ before m true (n * 10 + (get_or s i 0 - 48)) s (i + 1)
    unfolding before count number places
    before_digit d p = rw (held_on s i l r, run_on in_literal s i l r, number, d, p, one_more_lem (count is_digit (held s (i + 1))), or-true seen)

    before_comma : is_digit (get_or s i 0) ≡ false → eqb (get_or s i 0) 46 ≡ false → before m seen n s i ≡ before m seen n s (i + 1)
    unfolding before count number places
    before_comma d p = rw (held_on s i l r, run_on in_literal s i l r, number, d, p)

    before_point : is_digit (get_or s i 0) ≡ false → eqb (get_or s i 0) 46 ≡ true → before m seen n s i ≡ after m seen n 0 s (i + 1)
    unfolding before after count number places
    before_point d p = rw (held_on s i l r, run_on in_literal s i l r, number, d, p, zero-add (count is_digit (held s (i + 1))))

    after_digit : is_digit (get_or s i 0) ≡ true → eqb (get_or s i 0) 46 ≡ false → after m seen n k s i ≡ after m true (n * 10 + (get_or s i 0 - 48)) (k + 1) s (i + 1)
    unfolding after count number
    after_digit d p =
        let c = count is_digit (held s (i + 1)) in
        let more : k + suc c ≡ k + 1 + c = omega arith in
        rw (held_on s i l r, run_on in_literal s i l r, number, d, p, one_more_lem c, or-true seen, more)

    after_comma_lem : is_digit (get_or s i 0) ≡ false → eqb (get_or s i 0) 46 ≡ false → after m seen n k s i ≡ after m seen n k s (i + 1)
    unfolding after count number
    after_comma_lem d p = rw (held_on s i l r, run_on in_literal s i l r, number, d, p)

    after_point : eqb (get_or s i 0) 46 ≡ true → after m seen n k s i ≡ Miss
    unfolding after count
    after_point p = rw (held_on s i l r, p, lt-leb (suc (suc (count is_point (held s (i + 1))))) 1 (omega arith), and-false)

  before_end : run_to in_literal s i ≡ i → before m seen n s i ≡ cond seen (To i (exact m (n * 1000000) (10 ^ 0))) Miss
  unfolding before count number places
  before_end e = rw (held_none s i e, e, or-false seen, and-true seen)

  after_end : run_to in_literal s i ≡ i → after m seen n k s i ≡ cond seen (To i (exact m (n * 1000000) (10 ^ k))) Miss
  unfolding after count number
  after_end e = rw (held_none s i e, e, or-false seen, and-true seen, add-zero k)

-- ---- what is kept settles as it is read, from every place on

module _ (m : Bool) (s : List ℕ) (w : ℕ) where
  -- the digits after the point
  abbrev Fraction-is : ℕ → Type 0
  Fraction-is i = (n k : ℕ) (seen t : Bool) (N j : ℕ) → Keeps w n k t N j → after m seen N j s i ≡ ended m s w (fraction_from n k seen t (drop i s) i)

  fraction_end : (i n k : ℕ) (seen t : Bool) (N j : ℕ) → Keeps w n k t N j → eqb (get_or s i 0) 46 ≡ false → run_to in_literal s i ≡ i → after m seen N j s i ≡ ended m s w (record { end = i; size = n; places = k; digits = seen; tail = t })
  unfolding ended
  fraction_end i n k seen t N j h p e = rw (after_end m seen N j s i e, p, finished m w n k t N j h)

  fraction_digit : (i : ℕ) → i < length s → is_digit (get_or s i 0) ≡ true → eqb (get_or s i 0) 46 ≡ false → in_literal (get_or s i 0) ≡ true → Fraction-is (i + 1) → (n k : ℕ) → Dec (k < 6) → (seen t : Bool) (N j : ℕ) → Keeps w n k t N j → after m seen N j s i ≡ ended m s w (fraction_from n k seen t (drop i s) i)
  fraction_digit i l d p r ih n k (yes q) seen t N j h =
      let b = digit_range (get_or s i 0) d in
      rw (after_digit m seen N j s i l r d p, place_digit n k seen t s i l d q) (ih _ _ true t _ _ (place_more (get_or s i 0) b.0 b.1 w n k t N j q h))
  fraction_digit i l d p r ih n k (no q) seen t N j h =
      let b = digit_range (get_or s i 0) d in
      rw (after_digit m seen N j s i l r d p, past_digit n k seen t s i l d (omega arith)) (ih _ _ true _ _ _ (past_more (get_or s i 0) b.0 b.1 w n k t N j (omega arith) h))

  fraction_by : (i : ℕ) → i < length s → Byte (get_or s i 0) → Fraction-is (i + 1) → Fraction-is i
  unfolding ended
  fraction_by i l (digit d p r) ih n k seen t N j h = fraction_digit i l d p r ih n k (dec_lt k 6) seen t N j h
  fraction_by i l (comma d c p r) ih n k seen t N j h = rw (after_comma_lem m seen N j s i l r d p, fraction_comma n k seen t s i l d c) (ih n k seen t N j h)
  fraction_by i l (point d c p r) ih n k seen t N j h = rw (after_point m seen N j s i l r p, fraction_stops n k seen t s i l d c, p)
  fraction_by i l (other d c p r) ih n k seen t N j h = rw (fraction_stops n k seen t s i l d c) (fraction_end i n k seen t N j h p (run_stops in_literal s i l r))

  fraction_is : (i : ℕ) → Fraction-is i
  fraction_is =
      back (length s) Fraction-is
      (λ i l n k seen t N j h. rw (fraction_ends n k seen t s i l) (fraction_end i n k seen t N j h (rw (get_d_past s i l)) (run_ends in_literal s i l)))
      (λ i l ih. fraction_by i l (byte (get_or s i 0)) ih)

module _ (m : Bool) (s : List ℕ) where
  -- the digits before it, and what follows them
  settled : Whole → Ans Value
  settled w = cond (eqb (get_or s w.end 0) 46) (point_literal m s w) (whole_literal m w)

  abbrev Whole-is : ℕ → Type 0
  Whole-is i = (n : ℕ) (seen : Bool) (N : ℕ) → Keeps n n 0 false N 0 → before m seen N s i ≡ settled (whole_from n seen (drop i s) i)

  whole_end : (i n : ℕ) (seen : Bool) (N : ℕ) → Keeps n n 0 false N 0 → eqb (get_or s i 0) 46 ≡ false → run_to in_literal s i ≡ i → before m seen N s i ≡ settled (record { end = i; size = n; digits = seen })
  unfolding settled whole_literal
  whole_end i n seen N h p e = rw (before_end m seen N 0 s i e, p, finished m n n 0 false N 0 h)

  whole_by : (i : ℕ) → i < length s → Byte (get_or s i 0) → Whole-is (i + 1) → Whole-is i
  unfolding settled point_literal
  whole_by i l (digit d p r) ih n seen N h =
      let b = digit_range (get_or s i 0) d in
      rw (before_digit m seen N 0 s i l r d p, whole_digit n seen s i l d) (ih _ true _ (whole_more (get_or s i 0) b.0 b.1 n N h))
  whole_by i l (comma d c p r) ih n seen N h = rw (before_comma m seen N 0 s i l r d p, whole_comma n seen s i l d c) (ih n seen N h)
  whole_by i l (point d c p r) ih n seen N h = rw (before_point m seen N 0 s i l r d p, whole_stops n seen s i l d c, p) (fraction_is m s n (i + 1) n 0 seen false N 0 h)
  whole_by i l (other d c p r) ih n seen N h = rw (whole_stops n seen s i l d c) (whole_end i n seen N h p (run_stops in_literal s i l r))

  whole_is : (i : ℕ) → Whole-is i
  whole_is =
      back (length s) Whole-is
      (λ i l n seen N h. rw (whole_ends n seen s i l) (whole_end i n seen N h (rw (get_d_past s i l)) (run_ends in_literal s i l)))
      (λ i l ih. whole_by i l (byte (get_or s i 0)) ih)

-- ---- the literal, by its whole part

module _ (m : Bool) (s : List ℕ) (b c : ℕ) (w : Whole) (e : c ≡ run_to is_space s b) (f : w ≡ whole_from 0 false (drop c s) c) where
  unsigned_is : unsigned m s b ≡ settled m s w
  unfolding unsigned literal_as is_number before
  unsigned_is = rw (f, e) (whole_is m s (run_to is_space s b) 0 false 0 none_kept)

  pub point_is : get_or s w.end 0 ≡ 46 → unsigned m s b ≡ point_literal m s w
  unfolding settled
  point_is p = unsigned_is ∙ rw p

  pub no_point_is : (get_or s w.end 0 ≡ 46 → ⊥) → unsigned m s b ≡ whole_literal m w
  unfolding settled
  no_point_is p = unsigned_is ∙ rw (ne_eqb _ _ p)
