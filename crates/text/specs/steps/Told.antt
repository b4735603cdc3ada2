-- What the code's readers answer: where they end, with what was read, or why they stop.
use Rattle.std.specs.Prelude.{ℕ, Result, Ok, Err}
use Rattle.text.specs.Refusals.{missing}
use Rattle.text.specs.declared.stop.Stop.{Stop}

abbrev pub Reading : Type 0 → Type 0
Reading A = Result (ℕ × A) Stop

-- a required reader at a place
abbrev pub required : {A : Type 0} → ℕ → Result A Stop → Result A Stop
required at (Ok x) = Ok x
required at (Err Stop.Miss) = Err (Stop.Hard missing at)
required at (Err (Stop.Hard k p)) = Err (Stop.Hard k p)
