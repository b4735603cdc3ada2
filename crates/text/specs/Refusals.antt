-- The refusals that are met while an entry is read, with their numbers, and what is said of a call's refusal.
use Rattle.text.specs.declared.stop.Refused.{Refused}
use Rattle.std.specs.Prelude.{ℕ, ◌≤◌, ◌≡◌, List}
use Rattle.text.specs.Every.{OneOf}
use Rattle.text.specs.declared.stop.Cause.{Cause}
use Rattle.text.specs.declared.stop.Cause.TheVariants.{TooDeep, Missing, MissingGap, MissingPart}

abbrev pub cause_number : Cause → ℕ
cause_number TooDeep = 3
cause_number Missing = 4
cause_number MissingGap = 4
cause_number MissingPart = 4

-- a group opens inside 32 open ones
abbrev pub too_deep : Cause
too_deep = TooDeep

-- a required part is missing
abbrev pub missing : Cause
missing = Missing

-- the gap after a date, a directive's keyword or `include` is missing
abbrev pub missing_gap : Cause
missing_gap = MissingGap

-- an account has no second part
abbrev pub missing_part : Cause
missing_part = MissingPart

-- a call's refusal: its number, its place and its count
abbrev pub refused_with : ℕ → ℕ → ℕ → Refused
refused_with n p c = record { number = n; place = p; count = c }

-- number n at place p, of a text of `size` bytes: n is one of the call's list, p stands within the text, and is 0 for 1
pub record Refusal (list : List ℕ) (size n p : ℕ) : Type 0 where
  pub listed : OneOf list n
  pub within : p ≤ size
  pub front : n ≡ 1 → p ≡ 0
