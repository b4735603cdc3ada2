-- A value's text reads back as the value.
use Rattle.decimal.specs.Faults.{Value}
use Rattle.std.specs.Prelude.{Ok}
use Prim.Native.Nat.{ℕ, zero, suc, ◌+◌, ◌-◌, ◌≤◌, ◌<◌}
use native.Mathlib.Decide.{dec_lt}
use native.Mathlib.Omega.{arith}
use mathlib.Core.Path.{◌≡◌, refl, sym, ◌∙◌, ap, subst}
use mathlib.Core.Bool.{Bool, true, false, cond}
use mathlib.Core.List.{List, [], ◌∷◌, ◌++◌}
use borrow.Author.Tests.{le-leb, lt-leb, ne_eqb}
use lib.ListN.{drop, drop_of_length-le, length, get_or}
use lib.Dec.{eqb}
use Rattle.decimal.specs.Exact.{limit, sized, whole_of, decimal_of, twos_of, word_limit, minus_from}
use Rattle.decimal.specs.declared.Form.TheVariants.{Rounding}
use Rattle.text.specs.Bytes.{is_blank, is_space, is_digit}
use Rattle.text.specs.Run.{run_from, run_to, blanks}
use Rattle.text.specs.Answer.{To, Miss, ◌then◌, ◌else◌}
use Rattle.text.proofs.Steps.{run_out, head_drop}
use Rattle.text.proofs.TestLaws.{differ}
use Rattle.text.proofs.Ats.{At, at_next, at_one, at_byte}
use Rattle.amount.specs.Literal.{in_literal, literal_as, unsigned, literal}
use Rattle.amount.specs.Expression.{Arithmetic, combined, is_plus, is_times, chain, atom, products, sums, negation, in_group, group, groups, within, expression_in, expression}
use Rattle.amount.proofs.LoneLiteral.{lone}
use Rattle.amount.proofs.Forms.{group_misses}
use Rattle.amount.proofs.ExpressionEnds.{none_between}
use Rattle.layout.specs.Written.{size_text, value_text}
use Rattle.layout.proofs.Texts.{at_text}
use Rattle.layout.proofs.Numbers.{All, size_head, size_literal, size_is_number, size_exact}

-- ---- runs

-- a run goes through bytes of its class and ends before another
run_through : (p : ℕ → Bool) (xs ys : List ℕ) (i : ℕ) → All p xs → p (get_or ys 0 0) ≡ false → run_from p (xs ++ ys) i ≡ i + length xs
unfolding run_from
run_through p [] [] i h e = omega arith
run_through p [] (y ∷ ys) i h e = rw e (omega arith)
run_through p (x ∷ xs) ys i h e = rw h.0 (run_through p xs ys (i + 1) h.1 e ∙ omega arith)

-- where a run ends stands a byte of another class, or the text ends
pub run_past : (p : ℕ → Bool) → p 0 ≡ false → (s : List ℕ) (i j : ℕ) → j ≡ run_to p s i → p (get_or (drop j s) 0 0) ≡ false
run_past p z s i j e = elim (dec_lt j (length s)) [ yes l ↦ rw (head_drop s j) (run_out p s i j e l) | no l ↦ rw (drop_of_length-le s {i = j} (omega arith)) z ]

-- the first byte past blanks
unfoldable pub after_blanks : List ℕ → ℕ
after_blanks [] = 0
after_blanks (b ∷ t) = cond (is_blank b) (after_blanks t) b

module _ (s : List ℕ) where
  pub run_at : (p : ℕ → Bool) (xs ys : List ℕ) (i : ℕ) → At s i (xs ++ ys) → All p xs → p (get_or ys 0 0) ≡ false → run_to p s i ≡ i + length xs
  unfolding run_to
  run_at p xs ys i A h e = rw A.here (run_through p xs ys i h e)

  pub stops_at : (p : ℕ → Bool) (i : ℕ) (t : List ℕ) → At s i t → p (get_or t 0 0) ≡ false → run_to p s i ≡ i
  stops_at p i t A e = run_at p [] t i A tt e ∙ omega arith

  pub past_blanks : (t : List ℕ) (i : ℕ) → At s i t → get_or s (blanks s i) 0 ≡ after_blanks t
  unfolding run_to run_from after_blanks
  past_blanks [] i A = rw A.here (at_byte A)
  past_blanks (b ∷ t) i A = go (is_blank b) refl (past_blanks t (i + 1))
    where
      go : (c : Bool) → is_blank b ≡ c → (At s (i + 1) t → get_or s (blanks s (i + 1)) 0 ≡ after_blanks t) → get_or s (blanks s i) 0 ≡ cond c (after_blanks t) b
      go true e f = rw (A.here, e) (rw (at_one A).here at f (at_one A))
      go false e f = rw (A.here, e) (at_byte A)

-- ---- which bytes are blanks

pub line_blank : is_blank 10 ≡ false
unfolding is_blank
line_blank = refl

pub shown : (b : ℕ) → 32 < b → is_blank b ≡ false
unfolding is_blank
shown b h = rw (ne_eqb b 32 (λ e. absurd (omega arith)), ne_eqb b 9 (λ e. absurd (omega arith)))

blank_space : All is_blank (32 ∷ [])
unfolding is_blank
blank_space = (refl, tt)

-- a space and no more
pub one_space : (s : List ℕ) {t : List ℕ} (i : ℕ) → At s i (32 ∷ t) → is_blank (get_or t 0 0) ≡ false → run_to is_blank s i ≡ i + 1
one_space s {t} i A e = run_at s is_blank (32 ∷ []) t i A blank_space e

-- ---- literals

pub digit_space : (b : ℕ) → is_digit b ≡ true → is_space b ≡ false
unfolding is_digit is_space
digit_space b e = ne_eqb b 32 (differ is_digit b 32 e refl)

pub digit_minus : (b : ℕ) → is_digit b ≡ true → eqb b 45 ≡ false
unfolding is_digit
digit_minus b e = ne_eqb b 45 (differ is_digit b 45 e refl)

pub digit_blank : (b : ℕ) → is_digit b ≡ true → is_blank b ≡ false
unfolding is_digit is_blank
digit_blank b e = rw (ne_eqb b 32 (differ is_digit b 32 e refl), ne_eqb b 9 (differ is_digit b 9 e refl))

-- what may follow a value: no byte of a literal, and no operator past blanks
pub record Calm (t : List ℕ) : Type 0 where
  pub ends : in_literal (get_or t 0 0) ≡ false
  pub plus : is_plus (after_blanks t) ≡ false
  pub times : is_times (after_blanks t) ≡ false

module _ (s : List ℕ) (n : ℕ) (h : n ≤ limit) (post : List ℕ) (c : in_literal (get_or post 0 0) ≡ false) (i : ℕ) (A : At s i (size_text n ++ post)) where
  size_byte : is_digit (get_or s i 0) ≡ true
  size_byte = let z = size_head n in rw (at_byte A, z.2) z.3

  unsigned_reads : (m : Bool) → unsigned m s i ≡ To (i + length (size_text n)) (Ok (decimal_of m n))
  unfolding unsigned literal_as
  unsigned_reads m =
      rw (
        stops_at s is_space i (size_text n ++ post) A (digit_space _ (rw (← at_byte A) size_byte)),
        run_at s in_literal (size_text n) post i A (size_literal n) c,
        at_text
            (size_text n) post A,
        size_is_number n,
        size_exact m n h,
      )

-- ---- the signed literal, as an expression

-- a value's text is that of a sign and a size, which come to the value again
pub record Form (v : ℕ) : Type 0 where
  pub minus : Bool
  pub size : ℕ
  pub small : size ≤ limit
  pub text : value_text v ≡ cond minus (45 ∷ size_text size) (size_text size)
  pub bits : twos_of (whole_of (decimal_of minus size)) ≡ v

up_form : (n : ℕ) → n ≤ limit → Form n
unfolding value_text twos_of decimal_of
up_form zero h = record { minus = false; size = 0; small = h; text = refl; bits = refl }
up_form (suc n) h = record { minus = false; size = suc n; small = h; text = rw (lt-leb minus_from (suc n) (omega arith)); bits = rw (ne_eqb (suc n) 0 (λ e. absurd (omega arith))) }

down_form : (n : ℕ) → suc n ≤ limit → Form (word_limit - suc n)
unfolding value_text twos_of decimal_of
down_form n h = record {
  minus = true;
  size = suc n;
  small = h;
  text = rw (le-leb minus_from (word_limit - suc n) (omega arith)) (ap (λ z. 45 ∷ size_text z) {x = word_limit - (word_limit - suc n)} {y = suc n} (omega arith));
  bits = rw (ne_eqb (suc n) 0 (λ e. absurd (omega arith)));
}

pub value_form : (m : Bool) (n : ℕ) → n ≤ limit → Form (twos_of (sized m n))
unfolding twos_of
value_form false n h = up_form n h
value_form true zero h = up_form 0 h
value_form true (suc n) h = down_form n h

module _ (s : List ℕ) where
  whole : (e : ℕ) (v : Value) (i : ℕ) → literal s i ≡ To e v → is_plus (get_or s (blanks s e) 0) ≡ false → is_times (get_or s (blanks s e) 0) ≡ false → expression s i ≡ To e v
  unfolding expression expression_in
  whole e v i L p t = lone s e v (combined Rounding) groups i L p t

  module _ (n : ℕ) (h : n ≤ limit) (post : List ℕ) (c : Calm post) (i : ℕ) where
    plus_there : (t : List ℕ) → At s i (t ++ post) → is_plus (get_or s (blanks s (i + length t)) 0) ≡ false
    plus_there t A = rw (past_blanks s post (i + length t) (at_next t post A)) c.plus

    times_there : (t : List ℕ) → At s i (t ++ post) → is_times (get_or s (blanks s (i + length t)) 0) ≡ false
    times_there t A = rw (past_blanks s post (i + length t) (at_next t post A)) c.times

    up_literal : At s i (size_text n ++ post) → literal s i ≡ To (i + length (size_text n)) (Ok (decimal_of false n))
    unfolding literal
    up_literal A = rw (digit_minus (get_or s i 0) (size_byte s n h post c.ends i A)) (unsigned_reads s n h post c.ends i A false)

    down_literal : At s i (45 ∷ (size_text n ++ post)) → literal s i ≡ To (i + length (45 ∷ size_text n)) (Ok (decimal_of true n))
    unfolding literal
    down_literal A =
        rw (at_byte A) (unsigned_reads s n h post c.ends (i + 1) (at_one A) true ∙ ap
        (λ z. To z (Ok (decimal_of true n))) {x = i + 1 + length (size_text n)} {y = i + suc (length (size_text n))} (omega arith))

    signed_reads : (m : Bool) → At s i (cond m (45 ∷ size_text n) (size_text n) ++ post) → expression s i ≡ To (i + length (cond m (45 ∷ size_text n) (size_text n))) (Ok (decimal_of m n))
    signed_reads false A = whole (i + length (size_text n)) (Ok (decimal_of false n)) i (up_literal A) (plus_there (size_text n) A) (times_there (size_text n) A)
    signed_reads true A = whole (i + length (45 ∷ size_text n)) (Ok (decimal_of true n)) i (down_literal A) (plus_there (45 ∷ size_text n) A) (times_there (45 ∷ size_text n) A)

-- the text of a value, where nothing goes on from it, reads as an expression of that value
pub value_reads : (s : List ℕ) (v : ℕ) (F : Form v) (post : List ℕ) → Calm post → (i : ℕ) → At s i (value_text v ++ post)
    → expression s i ≡ To (i + length (value_text v)) (Ok (decimal_of F.minus F.size))
value_reads s v F post c i A =
    let t = F.text in
    rw t (signed_reads s F.size F.small post c i F.minus (subst (λ z. At s i (z ++ post)) t A))

-- ---- no expression

-- b is a byte that starts none
pub record Dull (b : ℕ) : Type 0 where
  pub minus : eqb b 45 ≡ false
  pub paren : b ≡ 40 → ⊥
  pub space : is_space b ≡ false
  pub literal : in_literal b ≡ false

module _ (s : List ℕ) (i : ℕ) (t : List ℕ) (A : At s i t) (D : Dull (get_or t 0 0)) where
  no_literal : literal s i ≡ Miss
  unfolding literal unsigned
  no_literal =
      rw (at_byte A, D.minus, stops_at s is_space i t A D.space, stops_at s in_literal i t A D.literal) (none_between s false i i (omega arith))

  no_sum : (calc : Arithmetic) (n : ℕ) → sums calc (group calc n s) s i ≡ Miss
  unfolding sums products chain atom ◌then◌ ◌else◌
  no_sum calc n = rw (no_literal, group_misses s i (get_or t 0 0) (sym (at_byte A)) calc n D.paren)

  pub no_expression : expression s i ≡ Miss
  unfolding expression expression_in within in_group negation ◌else◌
  no_expression = rw (at_byte A, D.minus, no_sum (combined Rounding) groups)
