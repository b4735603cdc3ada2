-- Document 01's edges of expressions, and the examples of the decided points 4, 5, 6, 8 and 9: one list,
-- under one statement in `proofs/Examples.antt`, by computation.
use Rattle.text.specs.Refusals.{too_deep}
use Rattle.decimal.specs.declared.Fault.{Fault}
use Rattle.decimal.specs.Faults.{Value, divisor_fault, fine_fault, large_fault}
use Rattle.std.specs.Prelude.{ℕ, true, false, List, [], ◌∷◌, ◌++◌, replicate, Err, Ok}
use Prim.Native.Char.{code}
use Prim.Native.String.{String}
use Rattle.text.specs.Bytes.{bytes}
use Rattle.text.specs.Answer.{Ans, To, Miss, Hard}

-- a text, and the reading at its start
abbrev Example : Type 0
Example = List ℕ × Ans Value

-- millionths, and the same below zero
abbrev is : String → ℕ → ℕ → Example
is s e n = (bytes s, To e (Ok (record { minus = false; size = n })))

abbrev less : String → ℕ → ℕ → Example
less s e n = (bytes s, To e (Ok (record { minus = true; size = n })))

abbrev refused : String → ℕ → Fault → Example
refused s e n = (bytes s, To e (Err n))

abbrev misses : String → Example
misses s = (bytes s, Miss)

-- n groups around 2, after another text
abbrev nested : String → ℕ → List ℕ
nested s n = bytes s ++ replicate n (code "(") ++ code "2" ∷ replicate n (code ")")

abbrev edges : List Example
edges =
    less "-(2)*3" 4 2000000
    ∷ is "2*-(3)" 1 2000000
    ∷ is "2--3" 4 5000000
    ∷ less "- 5" 3 5000000
    ∷ misses "-\t5"
    ∷ is "1,2,.5" 6 12500000
    ∷ refused "1/3" 3 fine_fault
    ∷ refused "1/0" 3 divisor_fault
    ∷ is "0.000001" 8 1
    ∷ refused "0.0000001" 9 fine_fault
    ∷ refused "999999999.999999*1.000001" 25 large_fault
    ∷ misses ""
    ∷ (nested "" 32, To 65 (Ok (record { minus = false; size = 2000000 })))
    ∷ (nested "" 33, Hard too_deep 32)
    ∷ []

-- point 4: leading blanks
abbrev leading : List Example
leading = is " 5" 2 5000000 ∷ misses "\t5" ∷ misses " -5" ∷ misses " (5)" ∷ []

-- point 5: forms of a literal
abbrev literals : List Example
literals =
    is "1." 2 1000000
    ∷ is ".5" 2 500000
    ∷ less "-.5" 3 500000
    ∷ is "1,,2" 4 12000000
    ∷ is ",1" 2 1000000
    ∷ is "1," 2 1000000
    ∷ is "1.2,5" 5 1250000
    ∷ misses "."
    ∷ misses ","
    ∷ misses "-"
    ∷ misses "-."
    ∷ misses ",."
    ∷ misses "1.2.3"
    ∷ misses "1.2.3+1"
    ∷ is "1, 2" 2 1000000
    ∷ is "000000000000000000000000000000.5000000000000000000000000000000" 62 500000
    ∷ []

-- points 6 and 8: a negation ends its expression; which refusal goes first
abbrev orders : List Example
orders =
    less "-(2) + 1" 4 2000000
    ∷ refused "0/0" 3 divisor_fault
    ∷ refused "9999999999/0" 12 large_fault
    ∷ refused "0.0000001*9999999999" 20 fine_fault
    ∷ refused "1/0+9999999999" 14 divisor_fault
    ∷ []

-- point 9: refusal 3 counts in a reading that would be dropped, and a negation's group counts
abbrev depths : List Example
depths =
    (nested "1+" 33, Hard too_deep 34)
    ∷ (nested "-" 32, To 66 (Ok (record { minus = true; size = 2000000 })))
    ∷ (nested "-" 33, Hard too_deep 33)
    ∷ []

unfoldable pub examples : List Example
examples = edges ++ leading ++ literals ++ orders ++ depths
