-- M-106: what the exact form knows of a product or a quotient, the rounding form knows too.
use Rattle.decimal.specs.Faults.{Value, divisor_fault, large_fault}
use Rattle.decimal.specs.declared.Fault.{Fault}
use Rattle.std.specs.Prelude.{Err, Ok}
use Prim.Native.Nat.{ℕ, suc, ◌*◌, ◌/◌, ◌%◌, ◌≤◌}
use mathlib.Core.Path.{◌≡◌, refl, sym, ap, ◌∙◌}
use mathlib.Core.Bool.{Bool, true, false, cond, ◌||◌}
use native.Mathlib.Omega.{arith}
use native.Mathlib.Nat.{div-add-mod'}
use lib.Dec.{ltb, eqb}
use lib.IntN.{ℤ, pos, negsuc}
use borrow.Author.Tests.{lt-ltb, eqb-true, eqb-false}
use Rattle.decimal.specs.declared.Form.TheVariants.{Exact, Rounding}
use Rattle.decimal.specs.declared.Decimal.{Decimal}
use Rattle.decimal.specs.Rounding.{rounded_of, nearest_size}
use Rattle.decimal.specs.Exact.{limit, exact, value_in, product, quotient, Knows}
use Rattle.decimal.specs.steps.Judged.{sized_in}
use Rattle.decimal.proofs.Laws.{judged_exact, ones_is}
use Rattle.decimal.proofs.Whole.{value_sized}

-- what is known has no rest
no_rest : (m : Bool) (n d : ℕ) (a : Decimal) (b : Bool) → ltb (limit * d) n ≡ b → (c : Bool) → eqb (n % d) 0 ≡ c → exact m n d ≡ Ok a → n % d ≡ 0
unfolding exact
no_rest m n d a true x c y e = cc
no_rest m n d a false x true y e = eqb-true _ _ y
no_rest m n d a false x false y e = cc

-- n / d has no rest: it is its own nearest
module _ (m : Bool) (n d : ℕ) (p : 1 ≤ d) (r : n % d ≡ 0) where
  own_nearest : nearest_size n d ≡ n / d
  unfolding nearest_size rounded_of
  own_nearest = rw (r, lt-ltb 0 d p) (omega arith)

  over_one : exact m (n / d) 1 ≡ exact m n d
  over_one = sym (ones_is m (n / d)) ∙ judged_exact m d (n / d) 0 n (omega (arith, div-add-mod' n d)) p

sized_kept : (m : Bool) (n d : ℕ) → 1 ≤ d → Knows (sized_in Exact m n d) (sized_in Rounding m n d)
unfolding sized_in
sized_kept m n d p a e =
    let r = no_rest m n d a (ltb (limit * d) n) refl (eqb (n % d) 0) refl e in
    ap (λ q. exact m q 1) (own_nearest m n d p r) ∙ over_one m n d p r ∙ e

value_kept : (z : ℤ) (d : ℕ) → 1 ≤ d → Knows (value_in Exact z d) (value_in Rounding z d)
value_kept (pos n) d p a e = value_sized Rounding false n d ∙ sized_kept false n d p a (sym (value_sized Exact false n d) ∙ e)
value_kept (negsuc n) d p a e = value_sized Rounding true (suc n) d ∙ sized_kept true (suc n) d p a (sym (value_sized Exact true (suc n) d) ∙ e)

-- behind a test that refuses
unless_kept : (b : Bool) (k : Fault) (v w : Value) → (b ≡ false → Knows v w) → Knows (cond b (Err k) v) (cond b (Err k) w)
unless_kept true k v w h a e = e
unless_kept false k v w h a e = h refl a e

pub product_kept : (a b : Decimal) → Knows (product Exact a b) (product Rounding a b)
unfolding product
product_kept a b = unless_kept (ltb limit a.size || ltb limit b.size) large_fault _ _ (λ _. value_kept _ 1000000 (omega arith))

pub quotient_kept : (a b : Decimal) → Knows (quotient Exact a b) (quotient Rounding a b)
unfolding quotient
quotient_kept a b =
    unless_kept (ltb limit a.size || ltb limit b.size) large_fault _ _
    (λ _. unless_kept (eqb b.size 0) divisor_fault _ _ (λ f. let n = eqb-false b.size 0 f in value_kept _ b.size (omega arith)))
