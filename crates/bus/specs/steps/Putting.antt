-- When rows can be put: they are all there, nothing refuses one, and their fields fit.
use Rattle.std.specs.Prelude.{ℕ, ◌+◌, ◌*◌, ◌≤◌, ◌≡◌, List, length}
use Rattle.row.specs.Row.{width}
use Rattle.bus.specs.Writing.{row_of, fault, row_fields, faults, packet}

-- the row at the front of u, at a place of a buffer of so many bytes
pub record RowFits (s u : List ℕ) (at size : ℕ) : Type 0 where
  pub there : width ≤ length u
  pub sound : fault s (row_of u) ≡ 0
  pub room : at + length (row_fields s u) ≤ size

-- n rows of t, at the front of a buffer of so many bytes
pub record RowsFit (s t : List ℕ) (n size : ℕ) : Type 0 where
  pub there : n * width ≤ length t
  pub sound : faults s n t ≡ 0
  pub room : length (packet s n t) ≤ size
