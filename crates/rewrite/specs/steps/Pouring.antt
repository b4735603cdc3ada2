-- The loop over the rows, and the two passes.
use Rattle.text.specs.Refusals.{refused_with}
use Rattle.text.specs.declared.stop.Refused.{Refused}
use Rattle.std.specs.Prelude.{ℕ, ◌*◌, ◌-◌, min, ◌≡◌, cond, List, ◌++◌, leb, length, drop, Err, Ok, Result}
use Rattle.decimal.specs.Exact.{largest}
use Rattle.row.specs.declared.table.Row.{Row}
use Rattle.row.specs.Row.{width, rows_in}
use Rattle.layout.specs.Meaning.{item_of, meaning}
use Rattle.layout.specs.Written.{printed, no_item}
use Rattle.rewrite.specs.steps.Putting.{Put}
use Rattle.rewrite.specs.steps.Pieces.{AllFlagged, front}

-- rows i to n are left, of which x is the first: whatever puts them has put all of them
pub record Going (s t : List ℕ) (n : ℕ) (o out : List ℕ) (i at k : ℕ) (prev x : Row) : Type 0 where
  pub on : (v : List ℕ) (q : ℕ) → Put out at (printed k (item_of s prev) (meaning s (rows_in (n - i) (drop (i * width) t)))) v q
      → Put o 0 (printed 0 no_item (meaning s (rows_in n t))) v q
  pub first : x ≡ front (rows_in (n - i) (drop (i * width) t))
  pub flags : AllFlagged (rows_in (n - i) (drop (i * width) t))
  pub same : length out ≡ length o

-- w is written to the front of o where there is room for all of it
pub record Pours (w o : List ℕ) (r : Result ℕ Refused) (u : List ℕ) : Type 0 where
  pub answer : r ≡ cond (leb (length w) (length o)) (Ok (length w)) (Err (refused_with 9 0 (min (length w) largest)))
  pub left : u ≡ cond (leb (length w) (length o)) (w ++ drop (length w) o) o
