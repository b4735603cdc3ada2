-- The items of a buffer's records.
use Rattle.text.specs.Refusals.{refused_with}
use Rattle.text.specs.declared.stop.Refused.{Refused}
use Rattle.decimal.specs.Faults.{Value}
use Rattle.std.specs.Prelude.{ℕ, ◌*◌, cond, List, ◌++◌, leb, length, drop, Err, Ok, Result}
use Rattle.row.specs.declared.table.Row.{Row}
use Rattle.row.specs.Row.{fields_in}
use Rattle.order.specs.Records.{record_width, records_bytes}
use Rattle.order.specs.Groups.{Item}
use Rattle.totals.specs.Totals.{item_row}

-- an item's row, where its first record is given by its bytes
unfoldable pub head_row : List ℕ → ℕ → Value → Row
head_row b n v = item_row (record { first = fields_in b; count = n; sum = v })

abbrev pub item_row_in : Item (List ℕ) → Row
item_row_in i = head_row i.first i.count i.sum

-- what is answered for so many items, and what is left of the buffer for them: its rows rs, where they fit
unfoldable pub placed : Result ℕ Refused → ℕ → Result ℕ Refused
placed (Ok k) room = cond (leb (k * record_width) room) (Ok k) (Err (refused_with 9 0 (k * record_width)))
placed (Err x) room = Err x

unfoldable pub items_put : Result ℕ Refused → List Row → List ℕ → List ℕ
items_put (Ok k) rs t = cond (leb (k * record_width) (length t)) (records_bytes rs ++ drop (k * record_width) t) t
items_put (Err x) rs t = t
