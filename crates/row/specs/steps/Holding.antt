-- A row whose fields are held by their bytes.
use Rattle.std.specs.Prelude.{◌<◌}
use Rattle.decimal.specs.Exact.{word_limit}
use Rattle.row.specs.declared.table.Row.{Row}
use Rattle.row.specs.Field.{field_limit}

pub record Held (r : Row) : Type 0 where
  pub kind : r.kind < field_limit
  pub start : r.start < field_limit
  pub end : r.end < field_limit
  pub line : r.line < field_limit
  pub p : r.p < field_limit
  pub q : r.q < field_limit
  pub bits : r.bits < word_limit
