-- Rule 6. Account: two or more parts joined by `:`; a part starts with a capital or digit, then letters, digits, `-`.
-- After a first part, missing the second is hard.
use Rattle.std.specs.Prelude.{ℕ, suc, ◌+◌, cond, List, [], length, get_or}
use Prim.Native.Char.{code}
use Rattle.text.specs.Bytes.{in_account, starts_part}
use Rattle.text.specs.Run.{run_to}
use Rattle.text.specs.Refusals.{missing_part}
use Rattle.text.specs.Answer.{Ans, To, Miss, must, ◌and◌, many}
use Rattle.text.specs.Leaves.{byte}

-- a part: a capital or digit, then letters, digits, `-`
unfoldable pub account_part : {A : Type 0} → List ℕ → ℕ → Ans (List A)
account_part s at = cond (starts_part (get_or s at 0)) (To (run_to in_account s (at + 1)) []) Miss

-- `:` and a part
unfoldable pub next_part : {A : Type 0} → List ℕ → ℕ → Ans (List A)
next_part s at = byte (code ":") s at and λ b. account_part s b

-- two or more parts; the second is required after a first one, and its refusal stands at the account's start
unfoldable pub account : {A : Type 0} → List ℕ → ℕ → Ans (List A)
account s at = account_part s at and λ e. must missing_part at (next_part s e) and λ f. many (next_part s) (suc (length s)) f
