-- Records and items of M-108: the fields of a row of document 01, in a width of their own.
use Rattle.std.specs.Prelude.{ℕ, List}
use Rattle.row.specs.declared.table.Row.{Row}
use Rattle.row.specs.Row.{bytes_of, fields_width, field_bytes}

abbrev pub record_width : ℕ
record_width = fields_width

-- the bytes of rows as records
abbrev pub records_bytes : List Row → List ℕ
records_bytes rs = bytes_of field_bytes rs
