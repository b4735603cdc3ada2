-- What measuring a packet gives.
use Rattle.text.specs.Refusals.{refused_with}
use Rattle.text.specs.declared.stop.Refused.{Refused}
use Rattle.std.specs.Prelude.{ℕ, ◌+◌, min, cond, List, eqb, length, Err, Ok, Result}
use Rattle.decimal.specs.Exact.{largest}
use Rattle.bus.specs.Writing.{row_of, fault, row_fields, faults, packet}

-- a fault's number, or a length
unfoldable pub measured_by : ℕ → ℕ → Result ℕ Refused
measured_by bad n = cond (eqb bad 0) (Ok n) (Err (refused_with bad 0 0))

-- the row at the front
unfoldable pub row_measured : List ℕ → List ℕ → Result ℕ Refused
row_measured s u = measured_by (fault s (row_of u)) (length (row_fields s u))

-- n rows are left, and so many bytes were counted
unfoldable pub measured_from : List ℕ → ℕ → List ℕ → ℕ → Result ℕ Refused
measured_from s n u k = measured_by (faults s n u) (min (k + length (packet s n u)) largest)
