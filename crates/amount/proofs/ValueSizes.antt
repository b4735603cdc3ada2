-- A value that an expression gives is within the limit, in any form, or refused by 6, 7 or 8; and what refuses the
-- expression itself is a group that opens too deep.
use Rattle.std.specs.Prelude.{Err, Ok}
use Rattle.decimal.specs.Faults.{Value, number_of, divisor_fault, fine_fault, large_fault}
use Prim.Native.Nat.{ℕ, zero, suc, ◌+◌, ◌*◌, ◌/◌, ◌%◌, ◌≤◌}
use native.Mathlib.Nat.{div-le_of_le-mul, mul_comm}
use native.Mathlib.Omega.{arith}
use mathlib.Core.Path.{◌≡◌, refl, subst}
use mathlib.Core.Bool.{Bool, true, false, cond, ◌||◌}
use mathlib.Core.Logic.{inl, inr}
use mathlib.Core.List.{List, [], ◌∷◌}
use borrow.Author.Tests.{ltb-false}
use lib.Dec.{eqb, ltb}
use lib.IntN.{ℤ, ◌+ℤ◌, ◌-ℤ◌, ◌*ℤ◌}
use lib.ListN.{length, get_or}
use Rattle.decimal.specs.Exact.{limit, sized, whole_of, operands, decimal_of, exact, exactly, value_in, negated, sum, difference, product, quotient}
use Rattle.decimal.specs.Rounding.{nearest}
use Rattle.decimal.specs.steps.Judged.{judged_of}
use Rattle.decimal.specs.declared.Form.{Form}
use Rattle.decimal.specs.declared.Form.TheVariants.{Exact, Rounding}
use Rattle.decimal.specs.declared.Decimal.{Decimal}
use Rattle.text.specs.Every.{Every, OneOf}
use Rattle.text.specs.Run.{blanks}
use Rattle.text.specs.Answer.{Ans, To, Miss, Hard, ◌then◌, ◌else◌}
use Rattle.text.specs.Refusals.{too_deep}
use Rattle.amount.specs.declared.detail.Detail.{Detail}
use Rattle.amount.specs.Details.{Rows, zero_value}
use Rattle.amount.specs.Literal.{literal_as, is_number, unsigned, literal}
use Rattle.amount.specs.Expression.{groups, Arithmetic, negated_value, operated, combined, is_plus, is_times, goes_on, chain, atom, products, sums, negation, in_group, closed, group, within, expression_in, expression}

abbrev pub value_numbers : List ℕ
value_numbers = 6 ∷ 7 ∷ 8 ∷ []

abbrev Fine : Value → Type 0
Fine (Ok d) = d.size ≤ limit
Fine (Err n) = OneOf value_numbers (number_of n)

pub record Small (v : Value) : Type 0 where
  pub holds : Fine v

-- no more of it: what refuses a value has one of these numbers
abbrev pub Numbered : Value → Type 0
Numbered (Ok d) = Unit {0}
Numbered (Err fault) = OneOf value_numbers (number_of fault)

pub small_numbered : (v : Value) → Small v → Numbered v
small_numbered (Ok d) h = tt
small_numbered (Err fault) h = h.holds

pub zero_small : Small zero_value
zero_small = record { holds = omega arith }

too_large : Small (Err large_fault)
too_large = record { holds = inl refl }

not_exact : Small (Err fine_fault)
not_exact = record { holds = inr (inl refl) }

by_zero : Small (Err divisor_fault)
by_zero = record { holds = inr (inr (inl refl)) }

cond_small : (b : Bool) (v w : Value) → Small v → Small w → Small (cond b v w)
cond_small true v w p q = p
cond_small false v w p q = q

made_small : (m : Bool) (n : ℕ) → n ≤ limit → Small (Ok (decimal_of m n))
unfolding decimal_of
made_small m n h = record { holds = h }

pub exact_small : (m : Bool) (n d : ℕ) → Small (exact m n d)
unfolding exact
exact_small m n d = on (ltb (limit * d) n) refl
  where
    on : (b : Bool) → ltb (limit * d) n ≡ b → Small (cond b (Err large_fault) (cond (eqb (n % d) 0) (Ok (decimal_of m (n / d))) (Err fine_fault)))
    on true e = too_large
    on false e = cond_small (eqb (n % d) 0) _ (Err fine_fault) (made_small m (n / d) (div-le_of_le-mul d (rw (mul_comm d limit) (ltb-false (limit * d) n e)))) not_exact

pub exactly_small : (z : ℤ) (d : ℕ) → Small (exactly z d)
unfolding exactly
exactly_small z d = exact_small _ _ d

pub judged_small : (m : Bool) (q r : ℕ) → Small (judged_of m q r)
unfolding judged_of
judged_small m q r = on (ltb limit q) refl
  where
    on : (b : Bool) → ltb limit q ≡ b → Small (cond b (Err large_fault) (cond (eqb r 0) (Ok (decimal_of m q)) (cond (eqb q limit) (Err large_fault) (Err fine_fault))))
    on true e = too_large
    on false e = cond_small (eqb r 0) _ _ (made_small m q (ltb-false limit q e)) (cond_small (eqb q limit) _ _ too_large not_exact)

pub opposite_small : (a : Decimal) → Small (negated a)
unfolding negated
opposite_small a = exactly_small _ 1

negated_small : (v : Value) → Small v → Small (negated_value v)
unfolding negated_value
negated_small (Ok a) h = opposite_small a
negated_small (Err n) h = h

operands_small : (a b : Decimal) (v : Value) → Small v → Small (operands a b v)
operands_small a b v h = cond_small (ltb limit a.size || ltb limit b.size) (Err large_fault) v too_large h

pub sum_small : (a b : Decimal) → Small (sum a b)
unfolding sum
sum_small a b = operands_small a b (exactly (whole_of a +ℤ whole_of b) 1) (exactly_small (whole_of a +ℤ whole_of b) 1)

pub difference_small : (a b : Decimal) → Small (difference a b)
unfolding difference
difference_small a b = operands_small a b (exactly (whole_of a -ℤ whole_of b) 1) (exactly_small (whole_of a -ℤ whole_of b) 1)

pub value_small : (form : Form) (z : ℤ) (d : ℕ) → Small (value_in form z d)
unfolding value_in
value_small Exact z d = exactly_small z d
value_small Rounding z d = exactly_small (nearest z d) 1

pub product_small : (form : Form) (a b : Decimal) → Small (product form a b)
unfolding product
product_small form a b = operands_small a b _ (value_small form (whole_of a *ℤ whole_of b) 1000000)

pub quotient_small : (form : Form) (a b : Decimal) → Small (quotient form a b)
unfolding quotient
quotient_small form a b =
    operands_small a b _ (cond_small (eqb b.size 0) (Err divisor_fault) _ by_zero (value_small form (whole_of a *ℤ sized b.minus 1000000) b.size))

operated_small : (form : Form) (op : ℕ) (a b : Decimal) → Small (operated form op a b)
unfolding operated
operated_small form op a b =
    cond_small (eqb op 43) _ _ (sum_small a b)
    (cond_small (eqb op 45) _ _ (difference_small a b) (cond_small (eqb op 42) _ _ (product_small form a b) (quotient_small form a b)))

abbrev Keeps : Arithmetic → Type 0
Keeps calc = (op : ℕ) (v w : Value) → Small v → Small w → Small (calc op v w)

combined_small : (form : Form) → Keeps (combined form)
unfolding combined
combined_small form op (Err n) w p q = p
combined_small form op (Ok a) (Err n) p q = q
combined_small form op (Ok a) (Ok b) p q = operated_small form op a b

pub negated_numbered : (v : Value) → Numbered v → Numbered (negated_value v)
unfolding negated_value
negated_numbered (Ok a) h = small_numbered (negated a) (opposite_small a)
negated_numbered (Err fault) h = h

pub combined_numbered : (form : Form) (op : ℕ) (v w : Value) → Numbered v → Numbered w → Numbered (combined form op v w)
unfolding combined
combined_numbered form op (Err fault) w h g = h
combined_numbered form op (Ok a) (Err fault) h g = g
combined_numbered form op (Ok a) (Ok b) h g = small_numbered (operated form op a b) (operated_small form op a b)

-- ---- readers

abbrev Fines : Ans Value → Type 0
Fines (To e v) = Small v
Fines Miss = Unit {0}
Fines (Hard k p) = k ≡ too_deep

pub record Smalls (a : Ans Value) : Type 0 where
  pub holds : Fines a

to_small : (e : ℕ) (v : Value) → Small v → Smalls (To e v)
to_small e v h = record { holds = h }

no_small : Smalls Miss
no_small = record { holds = tt }

hard_small : (p : ℕ) → Smalls (Hard too_deep p)
hard_small p = record { holds = refl }

if_small : (b : Bool) (x y : Ans Value) → Smalls x → Smalls y → Smalls (cond b x y)
if_small true x y p q = p
if_small false x y p q = q

else_small : (a b : Ans Value) → Smalls a → Smalls b → Smalls (a else b)
unfolding ◌else◌
else_small (To e v) b p q = p
else_small Miss b p q = q
else_small (Hard k i) b p q = p

then_small : (a : Ans Value) (g : ℕ → Value → Ans Value) → Smalls a → ((e : ℕ) (v : Value) → Small v → Smalls (g e v)) → Smalls (a then g)
unfolding ◌then◌
then_small (To e v) g p f = f e v p.holds
then_small Miss g p f = no_small
then_small (Hard k i) g p f = record { holds = p.holds }

module _ (calc : Arithmetic) (keeps : Keeps calc) where
  goes_small : (op : ℕ → Bool) (x : ℕ → Ans Value) (s : List ℕ) → ((i : ℕ) → Smalls (x i)) → (k : ℕ) (v : Value) (e : ℕ) → Small v → Smalls (goes_on calc op x s k v e)
  unfolding goes_on
  goes_small op x s h zero v e p = to_small e v p
  goes_small op x s h (suc k) v e p =
      if_small (op (get_or s (blanks s e) 0)) _ (To e v)
      (else_small _ (To e v) (then_small _ _ (h (blanks s (blanks s e + 1))) (λ f w q. goes_small op x s h k (calc (get_or s (blanks s e) 0) v w) f (keeps _ v w p q))) (to_small e v p))
      (to_small e v p)

  chain_small : (op : ℕ → Bool) (x : ℕ → Ans Value) (s : List ℕ) → ((i : ℕ) → Smalls (x i)) → (at : ℕ) → Smalls (chain calc op x s at)
  unfolding chain
  chain_small op x s h at = then_small (x at) _ (h at) (λ e v p. goes_small op x s h (length s) v e p)

as_small : (m : Bool) (s : List ℕ) (e : ℕ) → Smalls (literal_as m s e)
unfolding literal_as
as_small m s e = if_small (is_number s) _ Miss (to_small e _ (exact_small m _ _)) no_small

pub literal_small : (s : List ℕ) (at : ℕ) → Smalls (literal s at)
unfolding literal unsigned
literal_small s at = if_small (eqb (get_or s at 0) 45) _ _ (as_small true _ _) (as_small false _ _)

closed_small : (s : List ℕ) (e : ℕ) (v : Value) → Small v → Smalls (closed s e v)
unfolding closed
closed_small s e v p = if_small (eqb (get_or s (blanks s e) 0) 41) (To (blanks s e + 1) v) Miss (to_small _ v p) no_small

module _ (calc : Arithmetic) (keeps : Keeps calc) where
  in_group_small : (g : ℕ → Ans Value) (s : List ℕ) → ((i : ℕ) → Smalls (g i)) → (at : ℕ) → Smalls (in_group calc g s at)
  unfolding in_group negation sums products atom
  in_group_small g s h at =
      else_small _ _
      (if_small (eqb (get_or s at 0) 45) _ Miss (then_small _ _ (h (blanks s (at + 1))) (λ e v p. to_small e _ (negated_small v p))) no_small)
      (chain_small calc keeps is_plus _ s (λ i. chain_small calc keeps is_times _ s (λ j. else_small _ _ (literal_small s j) (h j)) i) at)

  group_small : (n : ℕ) (s : List ℕ) (at : ℕ) → Smalls (group calc n s at)
  unfolding group
  group_small zero s at = if_small (eqb (get_or s at 0) 40) (Hard too_deep at) Miss (hard_small at) no_small
  group_small (suc n) s at =
      if_small (eqb (get_or s at 0) 40) _ Miss
      (then_small _ _ (in_group_small (group calc n s) s (λ i. group_small n s i) (blanks s (at + 1))) (λ e v p. closed_small s e v p)) no_small

pub expression_in_small : (form : Form) (s : List ℕ) (at : ℕ) → Smalls (expression_in form s at)
unfolding expression_in within
expression_in_small form s at =
    let k = combined_small form in in_group_small (combined form) k (group (combined form) groups s) s (group_small (combined form) k groups s) at

pub expression_small : (s : List ℕ) (at : ℕ) → Smalls (expression s at)
unfolding expression
expression_small s at = expression_in_small Rounding s at

pub read_small : (s : List ℕ) (at e : ℕ) (v : Value) → expression s at ≡ To e v → Small v
read_small s at e v q = (subst Smalls q (expression_small s at)).holds

-- ---- rows, each value of which is numbered

abbrev pub NumberedRow : Detail → Type 0
NumberedRow d = Numbered d.value

abbrev pub NumberedRows : List Detail → Type 0
NumberedRows ds = Every NumberedRow ds

abbrev pub WithNumbers : Rows → Type 0
WithNumbers (To e ds) = NumberedRows ds
WithNumbers Miss = Unit {0}
WithNumbers (Hard k p) = Unit {0}

pub record ReadNumbered (a : Rows) : Type 0 where
  pub holds : WithNumbers a
