-- Classes that are made of others, tested in the code's order.
use Prim.Native.Nat.{ℕ}
use mathlib.Core.Path.{◌≡◌}
use mathlib.Core.Bool.{Bool, true, false, ◌||◌}
use lib.Dec.{eqb}
use Rattle.text.specs.Bytes.{is_digit, is_capital, starts_part, in_currency}

-- the answer of `if x { return true; } y`, where r is what the test gave
pub or_yes : (r x y : Bool) → r ≡ x → r ≡ true → true ≡ (x || y)
or_yes r x y e t = cc

pub or_no : (r x y a : Bool) → r ≡ x → r ≡ false → a ≡ y → a ≡ (x || y)
or_no r x y a e t u = cc

-- the classes as the code has them
pub as_start : (b : ℕ) (r : Bool) → r ≡ (is_capital b || is_digit b) → r ≡ starts_part b
unfolding starts_part
as_start b r e = e

-- capitals first; c and d are what the code's tests gave
module _ (b : ℕ) (c : Bool) (e : c ≡ is_capital b) where
  pub currency_capital : c ≡ true → true ≡ in_currency b
  unfolding in_currency
  currency_capital t = rw (← e, t)

  pub currency_other : (d : Bool) → c ≡ false → d ≡ is_digit b → (d || eqb b 45 || eqb b 95 || eqb b 46 || eqb b 39) ≡ in_currency b
  unfolding in_currency
  currency_other d t f = rw (← e, t, f)

pub ruleset class_laws = (or_yes, or_no, as_start, currency_capital, currency_other)
