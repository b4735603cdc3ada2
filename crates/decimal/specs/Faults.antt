-- What an operation comes to: a decimal, or why there is none, which has the number of its refusal.
use Rattle.std.specs.Prelude.{ℕ, Result}
use Rattle.decimal.specs.declared.Decimal.{Decimal}
use Rattle.decimal.specs.declared.Fault.{Fault}

abbrev pub Value : Type 0
Value = Result Decimal Fault

abbrev pub number_of : Fault → ℕ
number_of fault = fault.number

-- too large
abbrev pub large_fault : Fault
large_fault = record { number = 6 }

-- no multiple of a millionth
abbrev pub fine_fault : Fault
fine_fault = record { number = 7 }

-- a zero divisor
abbrev pub divisor_fault : Fault
divisor_fault = record { number = 8 }
