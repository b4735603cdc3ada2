-- Rule 8. Expression: `-`, blanks, group (a negation, ending there), else a sum of products of atoms, left to right,
-- blanks around operators. Atom: literal or group. Group: `(`, blanks, expression, blanks, `)`. An expression may hold
-- a group and a group holds an expression. A reading gives its end with its value or the value's refusal.
use Rattle.decimal.specs.Faults.{Value}
use Rattle.std.specs.Prelude.{ℕ, zero, suc, ◌+◌, Bool, cond, ◌||◌, List, eqb, get_or, length, Err, Ok}
use Prim.Native.Char.{code}
use Rattle.decimal.specs.Exact.{negated, sum, difference, product, quotient}
use Rattle.decimal.specs.declared.Form.{Form}
use Rattle.decimal.specs.declared.Form.TheVariants.{Rounding}
use Rattle.decimal.specs.declared.Decimal.{Decimal}
use Rattle.text.specs.Run.{blanks}
use Rattle.text.specs.Answer.{Ans, To, Miss, Hard, ◌then◌, ◌else◌}
use Rattle.text.specs.Refusals.{too_deep}
use Rattle.amount.specs.Literal.{literal}

-- how many groups may be open around a place: refusal 3 where one opens inside so many
abbrev pub groups : ℕ
groups = 32

-- ---- values: a refusal is carried; the left operand's goes first, then the right one's, then the operation's own

unfoldable pub negated_value : Value → Value
negated_value (Ok a) = negated a
negated_value (Err n) = Err n

-- by the operator's byte: + - * /
unfoldable pub operated : Form → ℕ → Decimal → Decimal → Value
operated form op a b =
    cond (eqb op (code "+")) (sum a b) (cond (eqb op (code "-")) (difference a b) (cond (eqb op (code "*")) (product form a b) (quotient form a b)))

-- an arithmetic: what an operator's byte makes of two operands
abbrev pub Arithmetic : Type 0
Arithmetic = ℕ → Value → Value → Value

unfoldable pub combined : Form → Arithmetic
combined form op (Err n) w = Err n
combined form op (Ok a) (Err n) = Err n
combined form op (Ok a) (Ok b) = operated form op a b

-- ---- the rule, in an arithmetic calc, which no place depends on (`Agreement.antt`); g reads a group at a place

unfoldable pub is_plus : ℕ → Bool
is_plus b = eqb b (code "+") || eqb b (code "-")

unfoldable pub is_times : ℕ → Bool
is_times b = eqb b (code "*") || eqb b (code "/")

-- operators and operands x that go on from the value v, which ends at e: at most k of them. Where an operand misses,
-- the reading ends before its operator.
unfoldable pub goes_on : Arithmetic → (ℕ → Bool) → (ℕ → Ans Value) → List ℕ → ℕ → Value → ℕ → Ans Value
goes_on calc op x s zero v e = To e v
goes_on calc op x s (suc k) v e =
    let i = blanks s e in
    let further = (x (blanks s (i + 1)) then λ f w. goes_on calc op x s k (calc (get_or s i 0) v w) f) else To e v in
    cond (op (get_or s i 0)) further (To e v)

-- an operand, and what goes on from it, left to right; each operator has a byte of its own
unfoldable pub chain : Arithmetic → (ℕ → Bool) → (ℕ → Ans Value) → List ℕ → ℕ → Ans Value
chain calc op x s at = x at then λ e v. goes_on calc op x s (length s) v e

unfoldable pub atom : (ℕ → Ans Value) → List ℕ → ℕ → Ans Value
atom g s at =
    let number = literal s at in
    let group = g at in
    number else group

unfoldable pub products : Arithmetic → (ℕ → Ans Value) → List ℕ → ℕ → Ans Value
products calc g s at = chain calc is_times (atom g s) s at

unfoldable pub sums : Arithmetic → (ℕ → Ans Value) → List ℕ → ℕ → Ans Value
sums calc g s at = chain calc is_plus (products calc g s) s at

unfoldable pub negation : (ℕ → Ans Value) → List ℕ → ℕ → Ans Value
negation g s at =
    let group = g (blanks s (at + 1)) then λ e v. To e (negated_value v) in
    cond (eqb (get_or s at 0) (code "-")) group Miss

unfoldable pub in_group : Arithmetic → (ℕ → Ans Value) → List ℕ → ℕ → Ans Value
in_group calc g s at =
    let negative = negation g s at in
    let summed = sums calc g s at in
    negative else summed

-- blanks and `)` after a group's expression
unfoldable pub closed : List ℕ → ℕ → Value → Ans Value
closed s e v = cond (eqb (get_or s (blanks s e) 0) (code ")")) (To (blanks s e + 1) v) Miss

-- a group where n more may open: refusal 3 at its `(` where none may
unfoldable pub group : Arithmetic → ℕ → List ℕ → ℕ → Ans Value
group calc zero s at = cond (eqb (get_or s at 0) (code "(")) (Hard too_deep at) Miss
group calc (suc n) s at =
    let inner = in_group calc (group calc n s) s (blanks s (at + 1)) then closed s in
    cond (eqb (get_or s at 0) (code "(")) inner Miss

-- an expression where n groups may open one in another
unfoldable pub within : Arithmetic → ℕ → List ℕ → ℕ → Ans Value
within calc n s at = in_group calc (group calc n s) s at

-- rule 8 in a form (M-106)
unfoldable pub expression_in : Form → List ℕ → ℕ → Ans Value
expression_in form s at = within (combined form) groups s at

-- the default: plain and recovering reading round
unfoldable pub expression : List ℕ → ℕ → Ans Value
expression s at = expression_in Rounding s at
