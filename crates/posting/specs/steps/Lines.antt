-- A metadata line from each of its parts on, as the code reads it.
use Rattle.std.specs.Prelude.{ℕ, List, [], ◌∷◌}
use Prim.Native.Char.{code}
use Rattle.text.specs.Answer.{To, ◌then◌, ◌and◌, ◌else◌}
use Rattle.text.specs.Leaves.{gap, currency, byte, line_end}
use Rattle.amount.specs.Kinds.{number_meta_kind, currency_meta_kind}
use Rattle.amount.specs.Details.{Rows, named, valued}
use Rattle.amount.specs.Expression.{expression}
use Rattle.posting.specs.Metadata.{key, value}

unfoldable pub unit_value : ℕ → ℕ → List ℕ → ℕ → Rows
unit_value k c s at = currency s at and λ e. To e (named currency_meta_kind k c at e ∷ [])

unfoldable pub number_value : ℕ → ℕ → List ℕ → ℕ → Rows
number_value k c s at = let unit = unit_value k c s at in (expression s at then λ e v. To e (valued number_meta_kind k c at e v ∷ [])) else unit

unfoldable pub value_end : ℕ → ℕ → List ℕ → ℕ → Rows
value_end k c s at = value k c s at and λ e. line_end s e

unfoldable pub gap_value : ℕ → ℕ → List ℕ → ℕ → Rows
gap_value k c s at = gap s at and λ v. value_end k c s v

unfoldable pub colon_value : ℕ → List ℕ → ℕ → Rows
colon_value k s c = byte (code ":") s c and λ d. gap_value k c s d

unfoldable pub keyed_line : List ℕ → ℕ → Rows
keyed_line s k = key s k and λ c. colon_value k s c
