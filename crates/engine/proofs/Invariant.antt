-- What a state of the engine means by rule 8, and what stays between two turns. The arithmetic calc is any.
use Rattle.decimal.specs.Faults.{Value}
use Prim.Native.Nat.{ℕ, zero, suc, ◌-◌, ◌≤◌}
use mathlib.Core.Path.{◌≡◌}
use mathlib.Core.Bool.{false, cond}
use mathlib.Core.List.{List, [], ◌∷◌}
use lib.ListN.{get_or, length}
use Rattle.text.specs.Answer.{Ans, To, Miss, ◌then◌, ◌else◌}
use Rattle.amount.specs.Expression.{Arithmetic, negated_value, is_plus, is_times, goes_on, atom, products, closed, group, groups, within}
use Rattle.engine.specs.declared.Pending.{Pending}
use Rattle.engine.specs.declared.Frame.{Frame}
use Rattle.engine.specs.declared.Next.{Next}
use Rattle.engine.specs.declared.Next.TheVariants.{Start, Operand, Group, Done, Missed}
use Rattle.engine.specs.steps.Turns.{first_frame, joined, fallback}

-- ---- what it means; g reads a group at a place

-- what goes on from a product w that ends at e
unfoldable pub onward : Arithmetic → (ℕ → Ans Value) → List ℕ → Pending → Value → ℕ → Ans Value
onward calc g s sum w e =
    goes_on calc is_times (atom g s) s (length s) w e then λ f v. goes_on calc is_plus (products calc g s) s (length s) (joined calc sum v) f

-- the expression's answer, from the answer of the operand that is being read
unfoldable pub enter : Arithmetic → (ℕ → Ans Value) → List ℕ → Frame → Ans Value → Ans Value
enter calc g s f a =
    (a then λ e v. cond f.negated (To e (negated_value v)) (onward calc g s f.sum (joined calc f.product v) e)) else fallback calc f

-- the answer of the whole, from that of the expression in the innermost group, in which n more may open
unfoldable pub resume : Arithmetic → List ℕ → ℕ → List Frame → Ans Value → Ans Value
resume calc s n [] a = a
resume calc s n (f ∷ fs) a = resume calc s (suc n) fs (enter calc (group calc (suc n) s) s f (a then closed s))

-- the answer of the expression that is being read
unfoldable pub meaning : Arithmetic → List ℕ → ℕ → Next → Ans Value
meaning calc s n (Start p) = within calc n s p
meaning calc s n (Operand f p) = enter calc (group calc n s) s f (atom (group calc n s) s p)
meaning calc s n (Group f p) = enter calc (group calc n s) s f (group calc n s p)
meaning calc s n (Done e v) = To e v
meaning calc s n (Missed f) = fallback calc f

-- ---- the table

-- the innermost frame first
unfoldable pub stack_of : List Frame → ℕ → List Frame
stack_of t zero = []
stack_of t (suc d) = get_or t d (first_frame false) ∷ stack_of t d

-- no `)` follows where a frame falls back to: an operator stands there
abbrev pub Unclosed : Arithmetic → List ℕ → Frame → Type 0
Unclosed calc s f = (fallback calc f then closed s) ≡ Miss

unfoldable pub AllUnclosed : Arithmetic → List ℕ → List Frame → Type 0
AllUnclosed calc s [] = Unit {0}
AllUnclosed calc s (f ∷ fs) = Unclosed calc s f × AllUnclosed calc s fs

unfoldable pub Sound : Arithmetic → List ℕ → Next → Type 0
Sound calc s (Start p) = Unit {0}
Sound calc s (Operand f p) = Unclosed calc s f
Sound calc s (Group f p) = Unclosed calc s f × (get_or s p 0 ≡ 40)
Sound calc s (Done e v) = Unit {0}
Sound calc s (Missed f) = Unclosed calc s f

-- between two turns: d frames of the table t are in use, and the answer of the whole stays a
pub record Kept (calc : Arithmetic) (s : List ℕ) (a : Ans Value) (t : List Frame) (d : ℕ) (next : Next) : Type 0 where
  pub sized : length t ≡ groups
  pub room : d ≤ groups
  pub same : resume calc s (groups - d) (stack_of t d) (meaning calc s (groups - d) next) ≡ a
  pub well : AllUnclosed calc s (stack_of t d)
  pub sound : Sound calc s next
