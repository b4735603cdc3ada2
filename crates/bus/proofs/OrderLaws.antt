-- Laws of a number's bytes, over the width and the order.
use Prim.Native.Nat.{ℕ, ◌%◌, ◌^◌}
use mathlib.Core.Path.{◌≡◌, refl, ap, ◌∙◌}
use mathlib.Core.List.{List, reverse-reverse}
use Rattle.row.specs.Field.{le, un}
use Rattle.row.proofs.FieldLaws.{un_le}
use Rattle.bus.specs.Orders.{Order, lowest_first, highest_first, ordered, bytes_in, number_in}

-- putting bytes into an order and back changes nothing
ordered_twice : (o : Order) (bs : List ℕ) → ordered o (ordered o bs) ≡ bs
ordered_twice lowest_first bs = refl
ordered_twice highest_first bs = reverse-reverse bs

-- what reading finds of what was written: the number's low bytes
pub number_bytes : (o : Order) (k x : ℕ) → number_in o (bytes_in o k x) ≡ x % 256 ^ k
number_bytes o k x = ap un (ordered_twice o (le k x)) ∙ un_le k x
