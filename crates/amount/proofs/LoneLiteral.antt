-- A literal that no operator follows is all of an expression, so the code need not try the other forms there.
use Rattle.std.specs.Prelude.{Ok}
use Rattle.text.specs.steps.Told.{Reading}
use Rattle.decimal.specs.Faults.{Value}
use Prim.Native.Nat.{ℕ, ◌+◌, ◌<◌}
use mathlib.Core.Path.{◌≡◌, refl, sym, ◌∙◌}
use mathlib.Core.Bool.{Bool, true, false, ◌||◌}
use mathlib.Core.List.{List}
use native.Mathlib.Omega.{arith}
use native.Mathlib.Decide.{dec_lt}
use borrow.Author.Tests.{ne_eqb}
use lib.Dec.{eqb}
use lib.ListN.{get_or, length}
use Rattle.decimal.specs.declared.Form.{Form}
use Rattle.decimal.specs.declared.Form.TheVariants.{Exact, Rounding}
use Rattle.text.specs.Bytes.{is_blank, is_space, is_digit, between}
use Rattle.text.specs.Run.{run_to, blanks}
use Rattle.text.specs.Answer.{Ans, To, Miss, ◌then◌, ◌else◌}
use Rattle.text.proofs.TestLaws.{absurd_bool, or_left, or_right, differ}
use Rattle.text.proofs.Steps.{run_on, run_stops, run_same, run_first}
use Rattle.amount.specs.Literal.{in_literal, literal_as, unsigned, literal}
use Rattle.amount.specs.Expression.{Arithmetic, combined, groups, expression_in, expression, is_plus, is_times, chain, atom, products, sums, negation, in_group, group, within}
use Rattle.amount.specs.steps.Answers.{answer_of, operator_of}
use Rattle.amount.proofs.Forms.{was_read, group_misses}
use Rattle.amount.proofs.ExpressionEnds.{none_between, goes_off}

-- ---- no group opens after the sign of a literal

space_blank : (b : ℕ) → is_space b ≡ true → is_blank b ≡ true
unfolding is_space is_blank
space_blank b e = rw e

literal_blank : (b : ℕ) → in_literal b ≡ true → is_blank b ≡ false
unfolding in_literal is_digit is_blank
literal_blank b e = rw (ne_eqb b 32 (differ in_literal b 32 e refl), ne_eqb b 9 (differ in_literal b 9 e refl))

literal_open : (b : ℕ) → in_literal b ≡ true → b ≡ 40 → ⊥
unfolding in_literal is_digit
literal_open b e = differ in_literal b 40 e refl

module _ (s : List ℕ) where
  -- a literal is not empty: its first byte
  first_byte : (m : Bool) (c e f : ℕ) (v : Value) → e ≡ run_to in_literal s c → literal_as m (between s c e) e ≡ To f v → (c < length s) × (in_literal (get_or s c 0) ≡ true)
  first_byte m c e f v r h = elim (dec_lt c e) [ yes l ↦ run_first in_literal s c e r l | no l ↦ let q = none_between s m c e (omega arith) in absurd_bool cc ]

  -- where the spaces end, the blanks do
  spaces_end : (b c : ℕ) → c ≡ run_to is_space s b → (c < length s) × (in_literal (get_or s c 0) ≡ true) → blanks s b ≡ c
  spaces_end b c e h =
      run_same is_space s (λ i. blanks s i) (λ i l o. run_on is_blank s i l (space_blank (get_or s i 0) o)) b c e
      ∙ run_stops is_blank s c h.0 (literal_blank (get_or s c 0) h.1)

  pub negation_misses : (calc : Arithmetic) (n at e : ℕ) (v : Value) → literal s at ≡ To e v → (t : Bool) → eqb (get_or s at 0) 45 ≡ t → negation (group calc n s) s at ≡ Miss
  unfolding negation literal unsigned ◌then◌
  negation_misses calc n at e v h false f = rw f
  negation_misses calc n at e v h true f =
      let c = run_to is_space s (at + 1) in
      let b = first_byte true c (run_to in_literal s c) e v refl (rw f at h) in
      rw (f, spaces_end (at + 1) c refl b, group_misses s c (get_or s c 0) refl calc n (literal_open (get_or s c 0) b.1))

  -- ---- and nothing goes on from it

  module _ (e : ℕ) (v : Value) where
    chain_off : (calc : Arithmetic) (op : ℕ → Bool) (x : ℕ → Ans Value) (at : ℕ) → x at ≡ To e v → op (get_or s (blanks s e) 0) ≡ false → chain calc op x s at ≡ To e v
    unfolding chain ◌then◌
    chain_off calc op x at h f = rw h (goes_off s calc op x (length s) v e f)

    lone_atom : (g : ℕ → Ans Value) (at : ℕ) → literal s at ≡ To e v → atom g s at ≡ To e v
    unfolding atom ◌else◌
    lone_atom g at h = rw h

    pub lone_product : (calc : Arithmetic) (g : ℕ → Ans Value) (at : ℕ) → literal s at ≡ To e v → is_times (get_or s (blanks s e) 0) ≡ false → products calc g s at ≡ To e v
    unfolding products
    lone_product calc g at h t = chain_off calc is_times (atom g s) at (lone_atom g at h) t

    lone_sum : (calc : Arithmetic) (g : ℕ → Ans Value) (at : ℕ) → literal s at ≡ To e v → is_plus (get_or s (blanks s e) 0) ≡ false → is_times (get_or s (blanks s e) 0) ≡ false → sums calc g s at ≡ To e v
    unfolding sums
    lone_sum calc g at h p t = chain_off calc is_plus (products calc g s) at (lone_product calc g at h t) p

    pub lone : (calc : Arithmetic) (n at : ℕ) → literal s at ≡ To e v → is_plus (get_or s (blanks s e) 0) ≡ false → is_times (get_or s (blanks s e) 0) ≡ false → within calc n s at ≡ To e v
    unfolding within in_group ◌else◌
    lone calc n at h p t = rw (negation_misses calc n at e v h (eqb (get_or s at 0) 45) refl) (lone_sum calc (group calc n s) at h p t)

-- ---- the answers of the code

-- b is the byte after blanks, and x and y whether it is such an operator
pub operator_after : (s : List ℕ) (at i b : ℕ) (x y : Bool) → i ≡ blanks s at → b ≡ get_or s i 0 → x ≡ operator_of false b → y ≡ operator_of true b → (x || y) ≡ (is_plus (get_or s (blanks s at) 0) || is_times (get_or s (blanks s at) 0))
unfolding operator_of
operator_after s at i b x y p q u v = rw (← p, ← q, u, v)

-- r is the answer of the literal, and t whether an operator follows
module _ (s : List ℕ) (at : ℕ) (r : Reading Value) (p : r ≡ answer_of (literal s at)) (calc : Arithmetic) (n : ℕ) where
  pub lone_read : (e : ℕ) (v : Value) (t : Bool) → r ≡ Ok (e, v) → t ≡ (is_plus (get_or s (blanks s e) 0) || is_times (get_or s (blanks s e) 0)) → t ≡ false → r ≡ answer_of (within calc n s at)
  unfolding answer_of
  lone_read e v t q f o =
      let b = get_or s (blanks s e) 0 in
      rw (q, lone s e v calc n at (was_read (literal s at) r e v p q) (or_left (is_plus b) (is_times b) (sym f ∙ o)) (or_right (is_plus b) (is_times b) (sym f ∙ o)))

-- ---- an expression in a form: the exact one takes no short way

module _ (form : Form) (s : List ℕ) (at : ℕ) (r : Reading Value) where
  pub in_exact : form ≡ Exact → r ≡ answer_of (within (combined Exact) groups s at) → r ≡ answer_of (expression_in form s at)
  unfolding expression_in
  in_exact e p = rw e p

  pub in_rounding : form ≡ Rounding → r ≡ answer_of (expression s at) → r ≡ answer_of (expression_in form s at)
  unfolding expression
  in_rounding e p = rw e p

pub ruleset form_laws = (in_exact, in_rounding)

pub ruleset lone_laws = (operator_after, lone_read)
