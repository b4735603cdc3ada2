-- M-106: an expression that the exact form gives a value for has that value, and stops there, in the rounding form too.
use Rattle.text.specs.declared.stop.Refused.{Refused}
use Rattle.std.specs.Prelude.{Err, Ok, Result}
use Rattle.decimal.specs.Faults.{Value}
use Prim.Native.Nat.{ℕ}
use mathlib.Core.Path.{◌≡◌, refl}
use mathlib.Core.Bool.{Bool, true, false, cond}
use lib.Dec.{leb, ltb}
use lib.ListN.{length}
use Rattle.decimal.specs.declared.Decimal.{Decimal}
use Rattle.decimal.specs.Exact.{Knows}
use Rattle.text.specs.Permitted.{clean, size_limit}
use Rattle.text.specs.Answer.{Ans, To, Miss, Hard}
use Rattle.amount.specs.Agreement.{Alike}
use Rattle.amount.proofs.FormsAgree.{forms_agree}
use Rattle.access.specs.Single.{value_answer, read_answer, evaluated, ExactStays}

module _ (e : ℕ) (d : Decimal) where
  reading_stays : (a b : Ans Value) → Alike Knows a b → read_answer a ≡ Ok (e, d) → read_answer b ≡ Ok (e, d)
  unfolding read_answer value_answer
  reading_stays (To f (Ok x)) b p h = rw (p.1.0, p.1.1 x refl) h
  reading_stays (To f (Err n)) b p h = cc
  reading_stays Miss b p h = cc
  reading_stays (Hard k i) b p h = cc

  -- behind the tests of size and bytes
  judged_stays : (x y : Bool) (r q a b : Result (ℕ × Decimal) Refused) → (a ≡ Ok (e, d) → b ≡ Ok (e, d))
      → cond x (cond y r a) q ≡ Ok (e, d) → cond x (cond y r b) q ≡ Ok (e, d)
  judged_stays true true r q a b k h = h
  judged_stays true false r q a b k h = k h
  judged_stays false y r q a b k h = h

pub exact_stays : ExactStays
unfolding evaluated
exact_stays s e d = judged_stays e d (leb (length s) size_limit) (ltb (clean s) (length s)) _ _ _ _ (reading_stays e d _ _ (forms_agree s 0))
