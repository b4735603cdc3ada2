-- The forms agree: shown once of any two arithmetics that keep a relation of values, and then of the two forms.
use Rattle.std.specs.Prelude.{Err, Ok}
use Rattle.decimal.specs.Faults.{Value}
use Prim.Native.Nat.{ℕ, zero, suc, ◌+◌}
use mathlib.Core.Path.{refl}
use mathlib.Core.Bool.{Bool, true, false, cond}
use mathlib.Core.List.{List}
use lib.Dec.{eqb}
use lib.ListN.{get_or, length}
use Rattle.decimal.specs.declared.Decimal.{Decimal}
use Rattle.decimal.specs.declared.Form.TheVariants.{Exact, Rounding}
use Rattle.decimal.specs.Exact.{Knows, sum, difference, product, quotient}
use Rattle.decimal.proofs.ExactKept.{product_kept, quotient_kept}
use Rattle.text.specs.Run.{blanks}
use Rattle.text.specs.Answer.{Ans, To, Miss, Hard, ◌then◌, ◌else◌}
use Rattle.text.specs.Refusals.{too_deep}
use Rattle.amount.specs.Literal.{literal}
use Rattle.amount.specs.Expression.{Arithmetic, negated_value, operated, combined, is_plus, is_times, goes_on, chain, atom, products, sums, negation, in_group, closed, group, groups, within, expression_in}
use Rattle.amount.specs.Agreement.{Alike, FormsAgree}

module _ (R : Value → Value → Type 0) where
  cond_alike : (b : Bool) (x y u w : Ans Value) → Alike R x u → Alike R y w → Alike R (cond b x y) (cond b u w)
  cond_alike true x y u w p q = p
  cond_alike false x y u w p q = q

  else_alike : (a b x y : Ans Value) → Alike R a b → Alike R x y → Alike R (a else x) (b else y)
  unfolding ◌else◌
  else_alike (To e v) b x y p q = (p.0, (rw p.1.0, p.1.1))
  else_alike Miss b x y p q = rw p q
  else_alike (Hard k i) b x y p q = rw p

  then_alike : (a b : Ans Value) (f g : ℕ → Value → Ans Value) → Alike R a b → ((e : ℕ) (v w : Value) → R v w → Alike R (f e v) (g e w)) → Alike R (a then f) (b then g)
  unfolding ◌then◌
  then_alike (To e v) b f g p q = rw p.1.0 (q e v p.0 p.1.1)
  then_alike Miss b f g p q = rw p
  then_alike (Hard k i) b f g p q = rw p

  -- two arithmetics that keep R, and with it a literal's value and a negation
  module _ (one two : Arithmetic) (self : (v : Value) → R v v) (negates : (v w : Value) → R v w → R (negated_value v) (negated_value w))
      (keeps : (op : ℕ) (v w x y : Value) → R v w → R x y → R (one op v x) (two op w y)) (s : List ℕ) where
    itself : (a : Ans Value) → Alike R a a
    itself (To e v) = (v, (refl, self v))
    itself Miss = refl
    itself (Hard k p) = refl

    module _ (op : ℕ → Bool) (x y : ℕ → Ans Value) (X : (i : ℕ) → Alike R (x i) (y i)) where
      goes_alike : (k : ℕ) (v w : Value) (e : ℕ) → R v w → Alike R (goes_on one op x s k v e) (goes_on two op y s k w e)
      unfolding goes_on
      goes_alike zero v w e r = (w, (refl, r))
      goes_alike (suc k) v w e r =
          let i = blanks s e in
          let j = blanks s (i + 1) in
          cond_alike (op (get_or s i 0)) _ (To e v) _ (To e w)
          (else_alike (x j then λ f u. goes_on one op x s k (one (get_or s i 0) v u) f) (y j then λ f u. goes_on two op y s k (two (get_or s i 0) w u) f) (To e v) (To e w)
          (then_alike (x j) (y j) _ _ (X j) (λ f u t q. goes_alike k (one (get_or s i 0) v u) (two (get_or s i 0) w t) f (keeps (get_or s i 0) v w u t r q)))
          (w, (refl, r)))
          (w, (refl, r))

      chain_alike : (at : ℕ) → Alike R (chain one op x s at) (chain two op y s at)
      unfolding chain
      chain_alike at = then_alike (x at) (y at) _ _ (X at) (λ e v w r. goes_alike (length s) v w e r)

    module _ (g h : ℕ → Ans Value) (G : (i : ℕ) → Alike R (g i) (h i)) where
      atom_alike : (at : ℕ) → Alike R (atom g s at) (atom h s at)
      unfolding atom
      atom_alike at = else_alike (literal s at) (literal s at) (g at) (h at) (itself (literal s at)) (G at)

      sums_alike : (at : ℕ) → Alike R (sums one g s at) (sums two h s at)
      unfolding sums products
      sums_alike = chain_alike is_plus (products one g s) (products two h s) (chain_alike is_times (atom g s) (atom h s) atom_alike)

      negation_alike : (at : ℕ) → Alike R (negation g s at) (negation h s at)
      unfolding negation
      negation_alike at =
          let i = blanks s (at + 1) in
          cond_alike (eqb (get_or s at 0) 45) _ Miss _ Miss (then_alike (g i) (h i) _ _ (G i) (λ e v w r. (negated_value w, (refl, negates v w r)))) refl

      in_group_alike : (at : ℕ) → Alike R (in_group one g s at) (in_group two h s at)
      unfolding in_group
      in_group_alike at = else_alike (negation g s at) (negation h s at) (sums one g s at) (sums two h s at) (negation_alike at) (sums_alike at)

    group_alike : (n at : ℕ) → Alike R (group one n s at) (group two n s at)
    unfolding group closed
    group_alike zero at = itself (cond (eqb (get_or s at 0) 40) (Hard too_deep at) Miss)
    group_alike (suc n) at =
        let i = blanks s (at + 1) in
        cond_alike (eqb (get_or s at 0) 40) _ Miss _ Miss
        (then_alike (in_group one (group one n s) s i) (in_group two (group two n s) s i) (closed s) (closed s)
        (in_group_alike (group one n s) (group two n s) (group_alike n) i)
        (λ e v w r. cond_alike (eqb (get_or s (blanks s e) 0) 41) (To (blanks s e + 1) v) Miss (To (blanks s e + 1) w) Miss (w, (refl, r)) refl))
        refl

    within_alike : (n at : ℕ) → Alike R (within one n s at) (within two n s at)
    unfolding within
    within_alike n = in_group_alike (group one n s) (group two n s) (group_alike n)

-- ---- of the two forms

negates_known : (v w : Value) → Knows v w → Knows (negated_value v) (negated_value w)
unfolding negated_value
negates_known (Ok x) w h = rw (h x refl) (λ a e. e)
negates_known (Err n) w h = λ a e. cc

operated_known : (op : ℕ) (x y : Decimal) → Knows (operated Exact op x y) (operated Rounding op x y)
unfolding operated
operated_known op x y = on (eqb op 43) (eqb op 45) (eqb op 42)
  where
    on : (p m t : Bool) → Knows (cond p (sum x y) (cond m (difference x y) (cond t (product Exact x y) (quotient Exact x y)))) (cond p (sum x y) (cond m (difference x y) (cond t (product Rounding x y) (quotient Rounding x y))))
    on true m t = λ a e. e
    on false true t = λ a e. e
    on false false true = product_kept x y
    on false false false = quotient_kept x y

keeps_known : (op : ℕ) (v w x y : Value) → Knows v w → Knows x y → Knows (combined Exact op v x) (combined Rounding op w y)
unfolding combined
keeps_known op (Ok a) w (Ok b) y h k = rw (h a refl, k b refl) (operated_known op a b)
keeps_known op (Ok a) w (Err n) y h k = λ b e. cc
keeps_known op (Err n) w x y h k = λ b e. cc

pub forms_agree : FormsAgree
unfolding expression_in
forms_agree s at = within_alike Knows (combined Exact) (combined Rounding) (λ v a e. e) negates_known keeps_known s groups at
