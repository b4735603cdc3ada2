-- Accounts, byte by byte.
use Rattle.text.specs.Refusals.{missing_part}
use Rattle.text.specs.declared.stop.Stop.{Stop}
use Rattle.std.specs.Prelude.{ℕ, ◌+◌, Bool, cond, ◌&&◌, ◌||◌, List, [], ◌∷◌, eqb, drop, get_or, Err, Ok, Result}
use Prim.Native.Char.{code}
use Rattle.text.specs.Bytes.{in_account, starts_part}
use Rattle.text.specs.Run.{run_to}
use Rattle.text.specs.Answer.{Ans, To, Miss, Hard}

-- `:` and the start of a part
unfoldable pub part_follows : List ℕ → ℕ → Bool
part_follows s at = eqb (get_or s at 0) (code ":") && starts_part (get_or s (at + 1) 0)

-- in a text that starts at place i, inside a part: the end of the part and of the parts joined to it
unfoldable pub parts_from : List ℕ → ℕ → ℕ
parts_from [] i = i
parts_from (b ∷ s) i = cond (in_account b || (eqb b (code ":") && starts_part (get_or s 0 0))) (parts_from s (i + 1)) i

unfoldable pub account_at : List ℕ → ℕ → Result ℕ Stop
account_at s at =
    cond (starts_part (get_or s at 0))
    (let e = run_to in_account s (at + 1) in cond (part_follows s e) (Ok (parts_from (drop e s) e)) (Err (Stop.Hard missing_part at)))
    (Err Stop.Miss)

-- the reader's answer
unfoldable pub account_answer : {A : Type 0} → Result ℕ Stop → Ans (List A)
account_answer (Ok j) = To j []
account_answer (Err Stop.Miss) = Miss
account_answer (Err (Stop.Hard k p)) = Hard k p
