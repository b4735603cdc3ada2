-- M-103. The call: plain reading into the working space, and what is written of its rows. Refusals: plain reading's, 9
-- at place 1 for the working space, 9 at place 0 for the output.
use Rattle.text.specs.Refusals.{refused_with}
use Rattle.text.specs.declared.stop.Refused.{Refused}
use Rattle.std.specs.Prelude.{ℕ, ◌*◌, ◌≡◌, cond, List, ◌++◌, leb, length, drop, Err, Ok, Result}
use Rattle.row.specs.declared.table.Row.{Row}
use Rattle.row.specs.Row.{width}
use Rattle.row.specs.Work.{cleared}
use Rattle.ledger.specs.Plain.{Reading, accepted, denied, plain}
use Rattle.layout.specs.Written.{written}

-- what the working space must hold: the rows
abbrev pub need : List Row → ℕ
need rs = length rs * width

-- for an output of so many bytes and a working space of so many
unfoldable pub answered : List ℕ → ℕ → ℕ → Reading → Result ℕ Refused
answered s room space (accepted rs) =
    let size = length (written s rs) in
    cond (leb (need rs) space) (cond (leb size room) (Ok size) (Err (refused_with 9 0 size)))
    (Err (refused_with 9 1 (need rs)))
answered s room space (denied n p) = Err (refused_with n p 0)

-- every byte of the output afterwards: a refusal leaves it
unfoldable pub output_left : List ℕ → ℕ → List ℕ → Reading → List ℕ
output_left s space o (accepted rs) =
    let size = length (written s rs) in
    cond (leb (need rs) space) (cond (leb size (length o)) (written s rs ++ drop size o) o) o
output_left s space o (denied n p) = o

-- every byte of the working space afterwards: where it was used, zeros
unfoldable pub work_left : List ℕ → Reading → List ℕ
work_left w (accepted rs) = cond (leb (need rs) (length w)) (cleared (need rs) w) w
work_left w (denied n p) = w

-- the promise of the call
pub record Rewrites (s o w : List ℕ) (r : Result ℕ Refused) (u v : List ℕ) : Type 0 where
  pub answer : r ≡ answered s (length o) (length w) (plain s)
  pub output : u ≡ output_left s (length w) o (plain s)
  pub work : v ≡ work_left w (plain s)
