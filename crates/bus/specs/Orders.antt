-- The order in which a number's bytes stand: in a row the lowest is first, in a packet's lengths the highest.
use Rattle.std.specs.Prelude.{ℕ, List, reverse}
use Rattle.row.specs.Field.{le, un}

pub data Order : Type 0 where
  lowest_first : Order
  highest_first : Order

-- bytes that stand lowest first, in an order; and bytes in an order, lowest first
abbrev pub ordered : Order → List ℕ → List ℕ
ordered lowest_first bs = bs
ordered highest_first bs = reverse bs

-- the k low bytes of x
abbrev pub bytes_in : Order → ℕ → ℕ → List ℕ
bytes_in o k x = ordered o (le k x)

-- the number that the bytes are
abbrev pub number_in : Order → List ℕ → ℕ
number_in o bs = un (ordered o bs)
