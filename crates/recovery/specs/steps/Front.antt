-- Rows that stand at the front of a table, with no lines yet.
use Rattle.std.specs.Prelude.{ℕ, ◌*◌, ◌≤◌, List, map, ◌≡◌, length, take}
use Rattle.row.specs.declared.table.Row.{Row}
use Rattle.row.specs.Row.{rows_bytes, width}
use Rattle.ledger.specs.Strict.{part_by}
use Rattle.ledger.specs.declared.scan.Profile.{Profile}
use Rattle.ledger.specs.steps.Scan.{with_line}
use Rattle.recovery.specs.Recovering.{block_rows, recover_by}

-- the rows of the block s at place a
unfoldable pub unlined_block : Profile → ℕ → List ℕ → List Row
unlined_block K a s = map (with_line 0) (block_rows a 0 (length s) (part_by K s))

-- the rows of a ledger
unfoldable pub unlined : Profile → List ℕ → List Row
unlined K s = map (with_line 0) (recover_by K (length s) 0 0 s)

-- u is the table t with the rows at its front, if it has room for all of them; what else stands there may be anything
abbrev pub Front : List Row → List ℕ → List ℕ → Type 0
Front rs t u = length rs * width ≤ length t → take (length rs * width) u ≡ rows_bytes rs
