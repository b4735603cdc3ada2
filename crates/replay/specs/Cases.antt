-- A case: a header of 56 bytes, the first text (ledger, expression, content or packet), the second (6: the tag; 5: the
-- text that is expected; 10: the working space, c bytes, and the other behind it; 14: the row table that is given, d
-- bytes, and the new bytes behind it; 15: the row table that is read; 17: the working space), the lent buffer before
-- the call (1, 2, 7, 8, 14: row table; 4 and 17: output; 6: the row table that is read; 10: the items; 15: the packet;
-- 16: the row's buffer, b bytes, and the text's behind it) and as it must be after it. The header has numbers
-- of four bytes: the call, a, b, c and d, the bytes of the first text, of the second and of the buffer, then what must
-- be answered: number (0: accepted), place, count and one that is 0; last the value, of eight bytes.
-- Calls: 1 plain reading, 2 recovering reading, 3 single expression, 4 string content, 5 text of a span from a to b, 6
-- tag in force after a rows, 7 and 8 strict reading and strict recovering reading (M-110), 9 single expression in the
-- exact form (M-106; 3 rounds), 10 totals of the year a and the month b (M-108), 12 and 13 single expression in both
-- forms by the second engine (M-113), 14 an edit of the block from a to b, of which c rows are given (M-109), 15 the
-- packet of a rows, 16 one step of a packet's reader that stands at a; c is what it must hand out: 0 nothing, 1 an
-- entry's row, 2 a detail's row with its text (M-112), 17 a ledger written afresh (M-103). After 10 and 17 the first d
-- bytes of each working space must be zeros and the others as they were.
use Rattle.std.specs.Prelude.{cond, eqb, List, ℕ}
use Rattle.row.specs.Field.{field_at}
use Rattle.replay.specs.declared.case.Case.{Case}
use Rattle.replay.specs.declared.call.Reply.{Reply}

unfoldable pub case_of : List ℕ → Case
case_of h =
    record {
      call = field_at h 0 4;
      a = field_at h 4 4;
      b = field_at h 8 4;
      c = field_at h 12 4;
      d = field_at h 16 4;
      first = field_at h 20 4;
      second = field_at h 24 4;
      lent = field_at h 28 4;
    }

unfoldable pub must_of : List ℕ → Reply
must_of h =
    record {
      number = field_at h 32 4;
      place = field_at h 36 4;
      count = field_at h 40 4;
      value = field_at h 48 8;
      tag = cond (eqb (field_at h 0 4) 16) (field_at h 12 4) 0;
    }
