-- The two steps of a single expression, which both engines share.
use Rattle.decimal.specs.declared.Decimal.{Decimal}
use Rattle.text.specs.declared.stop.Refused.{Refused}
use Rattle.text.specs.declared.stop.Stop.{Stop}
use Rattle.decimal.specs.Faults.{Value}
use Rattle.text.specs.steps.Told.{Reading}
use Rattle.std.specs.Prelude.{ℕ, cond, List, leb, ltb, length, Err, Ok, Result}
use Rattle.text.specs.Permitted.{clean, size_limit}
use Rattle.text.specs.Refusals.{cause_number, refused_with}
use Rattle.access.specs.Single.{value_answer}

-- refusals 1 and 2
unfoldable pub judged_of : List ℕ → Result Unit Refused
judged_of s =
    cond (leb (length s) size_limit) (cond (ltb (clean s) (length s)) (Err (refused_with 2 (clean s) 0)) (Ok tt)) (Err (refused_with 1 0 0))

-- an engine's answer
unfoldable pub told_of : Reading Value → Result (ℕ × Decimal) Refused
told_of (Ok (e, v)) = value_answer e v
told_of (Err Stop.Miss) = Err (refused_with 11 0 0)
told_of (Err (Stop.Hard k p)) = Err (refused_with (cause_number k) p 0)

-- what refuses the text goes before what its expression answers
unfoldable pub answered : Result Unit Refused → Result (ℕ × Decimal) Refused → Result (ℕ × Decimal) Refused
answered (Ok tt) o = o
answered (Err r) o = Err r
