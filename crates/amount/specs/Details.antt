-- Detail rows while an entry is read: places from the entry's start, no line, and the value or its refusal.
use Rattle.decimal.specs.Faults.{Value}
use Rattle.std.specs.Prelude.{ℕ, ◌+◌, ◌-◌, false, List, [], ◌∷◌, Ok}
use Rattle.text.specs.Answer.{Ans, To, ◌and◌}
use Rattle.text.specs.Leaves.{string}
use Rattle.amount.specs.declared.detail.Detail.{Detail}

-- the answer of a reader that makes rows
abbrev pub Rows : Type 0
Rows = Ans (List Detail)

abbrev pub zero_value : Value
zero_value = Ok (record { minus = false; size = 0 })

-- a row of a kind that spans a text
abbrev pub span : ℕ → ℕ → ℕ → Detail
span k a e = record { kind = k; start = a; end = e; p = 0; q = 0; value = zero_value }

-- and names a second thing: another span, a date or a flag
abbrev pub named : ℕ → ℕ → ℕ → ℕ → ℕ → Detail
named k a e p q = record { kind = k; start = a; end = e; p = p; q = q; value = zero_value }

-- and holds a value
abbrev pub valued : ℕ → ℕ → ℕ → ℕ → ℕ → Value → Detail
valued k a e p q v = record { kind = k; start = a; end = e; p = p; q = q; value = v }

-- a string's row, of the places of its content
unfoldable pub quoted : (ℕ → ℕ → Detail) → List ℕ → ℕ → Rows
quoted row s at = string s at and λ e. To e (row (at + 1) (e - 1) ∷ [])
