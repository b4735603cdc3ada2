-- A tagged field of a packet: a one-byte tag, a two-byte big-endian length, the content.
use Rattle.std.specs.Prelude.{ℕ, ◌+◌, Bool, cond, ◌&&◌, List, [], ◌∷◌, ◌++◌, ltb, leb, length, get_or}
use Rattle.amount.specs.Kinds.{first_detail}
use Rattle.row.specs.Row.{width}
use Rattle.bus.specs.Orders.{Order, bytes_in, number_in}

-- Tag 1 is an entry row (kind under 20), 2 a detail row (any other), 3 a text.
abbrev pub entry_tag : ℕ
entry_tag = 1

abbrev pub detail_tag : ℕ
detail_tag = 2

abbrev pub text_tag : ℕ
text_tag = 3

unfoldable pub is_entry : ℕ → Bool
is_entry kind = ltb kind first_detail

unfoldable pub row_tag : ℕ → ℕ
row_tag kind = cond (is_entry kind) entry_tag detail_tag

-- what stands before the content
abbrev pub head_width : ℕ
head_width = 3

unfoldable pub head : ℕ → ℕ → List ℕ
head tag n = tag ∷ bytes_in Order.highest_first 2 n

unfoldable pub field : ℕ → List ℕ → List ℕ
field tag content = head tag (length content) ++ content

-- the longest content that two bytes can say
abbrev pub longest : ℕ
longest = 65535

-- a row's field, and what stands before a text's content behind it
abbrev pub row_field : ℕ
row_field = head_width + width

abbrev pub text_place : ℕ
text_place = row_field + head_width

-- of the field at the front of some bytes: its tag, the length that it states, and whether it is all there
abbrev pub tag_in : List ℕ → ℕ
tag_in r = get_or r 0 0

unfoldable pub stated : List ℕ → ℕ
stated r = number_in Order.highest_first (get_or r 1 0 ∷ get_or r 2 0 ∷ [])

unfoldable pub whole : List ℕ → Bool
whole r = leb head_width (length r) && leb (head_width + stated r) (length r)
