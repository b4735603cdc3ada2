-- M-112 over the calls: whatever is written reads back as the same rows and texts.
use Rattle.std.specs.Prelude.{ℕ, ◌≡◌, List, map, take}
use Rattle.row.specs.declared.table.Row.{Row}
use Rattle.row.specs.Row.{row_bytes}
use Rattle.ledger.specs.Plain.{accepted}
use Rattle.bus.specs.Back.{all, held_in, item_of, items}
use Rattle.lumbrisse.specs.declared.reply.Reply.{Reply}
use Rattle.lumbrisse.specs.Promises.{TablePromise, PacketPromise}

-- of any table: its first k rows, with the texts of a ledger s
abbrev pub TableReadsBack : Type 0
TableReadsBack =
    (s t b u : List ℕ) (k : ℕ) (r : Reply) → PacketPromise s t k b r u → r.number ≡ 0 → held_in (take r.count u) ≡ all (items s k t)

-- of a reading of a ledger s, plain or recovering, into a table t that it leaves as v: all of its rows
abbrev pub ReadingReadsBack : Type 0
ReadingReadsBack =
    (s t v b u : List ℕ) (rows : List Row) (q r : Reply) → TablePromise (accepted rows) t q v → q.number ≡ 0
    → PacketPromise s v q.count b r u → r.number ≡ 0 → held_in (take r.count u) ≡ all (map (λ row. item_of s (row_bytes row)) rows)
