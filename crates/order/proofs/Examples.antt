-- The examples hold, by computation.
use Rattle.decimal.specs.Faults.{Value}
use Rattle.std.specs.Prelude.{ℕ, ◌≡◌, refl, false, [], ◌∷◌, map, pos, negsuc, Ok}
use Rattle.decimal.specs.Exact.{decimal_of, exact, exactly, twos_of}
use Rattle.text.specs.Bytes.{bytes}
use Rattle.row.specs.Row.{row_of, field_bytes, fields_in}
use Rattle.access.specs.Spans.{good_span, span_text}
use Rattle.order.specs.Order.{◌next◌, numbers, texts, said, order_of, up_to, may_precede}
use Rattle.order.specs.steps.Buffers.{said_in}
use Rattle.order.specs.Sorted.{insert, sorted}
use Rattle.order.specs.Sums.{whole_from, sum_of, summed}
use Rattle.order.specs.Groups.{those, alike, heads, item_of, listed, items}
use Rattle.order.specs.Examples.{pairs, posting}

pub pairs_ordered : map (λ x. texts x.0 x.1) pairs ≡ map (λ x. x.2) pairs
unfolding pairs bytes texts ◌next◌ numbers
pairs_ordered = refl

-- B's running sum is too large, its sum is not; its record is its first one. A comes first
pub items_listed :
    map {B = ℕ × ℕ × Value} (λ i. ((fields_in i.first).line, i.count, i.sum))
    (items (said_in (bytes "ABCHF"))
    (posting 1 7 (pos 999999999999999)
    ∷ posting 0 8 (pos 2)
    ∷ posting 1 9 (pos 999999999999999)
    ∷ posting 1 10 (negsuc 999999999999998)
    ∷ []))
    ≡ (8, 1, Ok (record { minus = false; size = 2 })) ∷ (7, 3, Ok (record { minus = false; size = 999999999999999 })) ∷ []
unfolding bytes texts ◌next◌ numbers said order_of up_to may_precede insert sorted whole_from sum_of summed those alike heads item_of listed items row_of field_bytes fields_in twos_of good_span span_text decimal_of exact exactly
items_listed = refl
