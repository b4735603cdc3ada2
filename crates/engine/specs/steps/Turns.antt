-- What the engine's functions work out, in an arithmetic calc.
use Rattle.decimal.specs.Faults.{Value}
use Rattle.std.specs.Prelude.{ℕ, ◌+◌, Bool, true, false, cond, ◌||◌, List, eqb, get_or}
use Prim.Native.Char.{code}
use Rattle.text.specs.Run.{blanks}
use Rattle.text.specs.Answer.{Ans, To, Miss, Hard}
use Rattle.amount.specs.Literal.{literal}
use Rattle.amount.specs.Expression.{Arithmetic, negated_value, is_plus, is_times}
use Rattle.engine.specs.declared.Pending.{Pending}
use Rattle.engine.specs.declared.Pending.TheVariants.{Nothing, With}
use Rattle.engine.specs.declared.Frame.{Frame}
use Rattle.engine.specs.declared.Next.{Next}
use Rattle.engine.specs.declared.Next.TheVariants.{Operand, Group, Done, Missed}

-- nothing is pending before the first operand
abbrev pub first_frame : Bool → Frame
first_frame m = record { negated = m; sum = Nothing; product = Nothing; end = 0 }

unfoldable pub joined : Arithmetic → Pending → Value → Value
joined calc Nothing v = v
joined calc (With op u) v = calc op u v

-- by the product and the sum that are pending: where the expression ends if the operand misses
unfoldable pub falls_to : Arithmetic → Pending → Pending → ℕ → Ans Value
falls_to calc (With op v) sum e = To e (joined calc sum v)
falls_to calc Nothing (With op u) e = To e u
falls_to calc Nothing Nothing e = Miss

unfoldable pub fallback : Arithmetic → Frame → Ans Value
fallback calc f = falls_to calc f.product f.sum f.end

-- what is pending in f, with the operand v, as one value
unfoldable pub total_of : Arithmetic → Frame → Value → Value
total_of calc f v = joined calc f.sum (joined calc f.product v)

abbrev pub waiting_of : Pending → Pending → ℕ → Frame
waiting_of sum product e = record { negated = false; sum = sum; product = product; end = e }

-- by whether the operator b after the operand v, which ends at e, is `*` or `/`
unfoldable pub after_of : Arithmetic → Frame → Bool → ℕ → Value → ℕ → Frame
after_of calc f true b v e = waiting_of f.sum (With b (joined calc f.product v)) e
after_of calc f false b v e = waiting_of (With b (total_of calc f v)) Nothing e

-- an operand v that ends at e, where no negation is read
unfoldable pub step_of : Arithmetic → List ℕ → Frame → ℕ → Value → Next
step_of calc s f e v =
    let i = blanks s e in
    let b = get_or s i 0 in
    let more = Operand (after_of calc f (is_times b) b v e) (blanks s (i + 1)) in
    cond (is_times b || is_plus b) more (Done e (total_of calc f v))

unfoldable pub settle_of : Arithmetic → List ℕ → Frame → ℕ → Value → Next
settle_of calc s f e v = cond f.negated (Done e (negated_value v)) (step_of calc s f e v)

unfoldable pub open_of : List ℕ → Frame → ℕ → Next
open_of s f at = cond (eqb (get_or s at 0) (code "(")) (Group f at) (Missed f)

unfoldable pub begin_of : List ℕ → ℕ → Next
begin_of s at = cond (eqb (get_or s at 0) (code "-")) (open_of s (first_frame true) (blanks s (at + 1))) (open_of s (first_frame false) at)

-- a literal, or what comes where there is none
unfoldable pub taken : Ans Value → (ℕ → Value → Next) → Next → Next
taken (To e v) k m = k e v
taken Miss k m = m
taken (Hard j p) k m = m

unfoldable pub start_of : Arithmetic → List ℕ → ℕ → Next
start_of calc s at = taken (literal s at) (settle_of calc s (first_frame false)) (begin_of s at)

unfoldable pub operand_of : Arithmetic → List ℕ → Frame → ℕ → Next
operand_of calc s f at = taken (literal s at) (settle_of calc s f) (open_of s f at)

unfoldable pub shut_of : Arithmetic → List ℕ → Frame → ℕ → Value → Next
shut_of calc s f e v =
    let i = blanks s e in
    cond (eqb (get_or s i 0) (code ")")) (settle_of calc s f (i + 1) v) (Missed f)
