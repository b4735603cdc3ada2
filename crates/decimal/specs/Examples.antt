-- The definitions tried on closed inputs: one list, under one statement in `proofs/Examples.antt`, by computation.
use Rattle.decimal.specs.Faults.{Value, divisor_fault, fine_fault, large_fault}
use Rattle.std.specs.Prelude.{ℕ, true, false, List, [], ◌∷◌, Err, Ok}
use Rattle.decimal.specs.declared.Form.TheVariants.{Exact, Rounding}
use Rattle.decimal.specs.declared.Decimal.{Decimal}
use Rattle.decimal.specs.Exact.{negated, sum, difference, product, quotient}

-- so many millionths, and as many below zero
abbrev up : ℕ → Decimal
up n = record { minus = false; size = n }

abbrev down : ℕ → Decimal
down n = record { minus = true; size = n }

-- what an operation gives, and what document 01 and the decided points say
abbrev pub examples : List (Value × Value)
examples =
    (negated (down 2000000), Ok (up 2000000))
    ∷ (negated (up 0), Ok (up 0))
    ∷ (difference (up 2000000) (down 3000000), Ok (up 5000000))
    ∷ (sum (down 1) (up 1), Ok (up 0))
    ∷ (sum (up 999999999999999) (up 1), Err large_fault)
    ∷ (sum (down 999999999999999) (up 1), Ok (down 999999999999998))
    ∷ (product Exact (up 999999999999999) (up 1000001), Err large_fault)
    ∷ (product Exact (up 1) (up 1), Err fine_fault)
    ∷ (product Exact (down 1500000) (up 2000000), Ok (down 3000000))
    ∷ (quotient Exact (up 1000000) (up 3000000), Err fine_fault)
    ∷ (quotient Exact (up 1000000) (up 0), Err divisor_fault)
    ∷ (quotient Exact (up 0) (up 0), Err divisor_fault)
    ∷ (quotient Exact (up 3000000) (up 1500000), Ok (up 2000000))
    ∷ (quotient Exact (up 999999999999999) (down 1), Err large_fault)
    ∷ (quotient Rounding (up 100000000) (up 3000000), Ok (up 33333333))
    ∷ (quotient Rounding (down 2000000) (up 3000000), Ok (down 666667))
    ∷ (product Rounding (up 1) (up 500000), Ok (up 0))
    ∷ (product Rounding (up 3) (up 500000), Ok (up 2))
    ∷ (product Rounding (down 1) (up 500000), Ok (up 0))
    ∷ (product Rounding (down 5) (up 500000), Ok (down 2))
    ∷ (product Rounding (up 999999999999999) (up 1000000), Ok (up 999999999999999))
    ∷ (quotient Rounding (up 1) (down 999999999999999), Ok (up 0))
    ∷ (quotient Rounding (up 1) (up 0), Err divisor_fault)
    ∷ (product Rounding (up 666666666666667) (up 1500000), Err large_fault)
    ∷ (product Rounding (up 666666666666666) (up 1500000), Ok (up 999999999999999))
    ∷ []
