-- Rules 4, 14 and 15: keywords of directives, option, include, pushtag and poptag.
use Rattle.std.specs.Prelude.{ℕ, ◌+◌, List, [], ◌∷◌}
use Prim.Native.String.{String}
use Rattle.text.specs.Bytes.{bytes}
use Rattle.text.specs.Answer.{To, ◌and◌, must}
use Rattle.text.specs.Leaves.{gap, hard_gap, word, tag, line_end}
use Rattle.text.specs.Refusals.{missing, missing_gap}
use Rattle.amount.specs.Kinds.{tag_kind, string_kind}
use Rattle.amount.specs.Details.{Rows, span, quoted}
use Rattle.posting.specs.Metadata.{metadata}
use Rattle.content.specs.Contents.{hard_string}

-- ---- Rule 4: a keyword, a gap and a content, both hard, then line end (a plain miss) and metadata

unfoldable pub keyword : String → (List ℕ → ℕ → Rows) → List ℕ → ℕ → Rows
keyword w content s at = word (bytes w) s at and λ e. hard_gap missing_gap s e and λ g. content s g and λ m. line_end s m and λ l. metadata s l

-- ---- Rules 14 and 15

unfoldable pub option : List ℕ → ℕ → Rows
option s at = word (bytes "option") s at and λ a. gap s a and λ b. quoted (span string_kind) s b and λ c. gap s c and λ d. quoted (span string_kind) s d and λ e. line_end s e

unfoldable pub include : List ℕ → ℕ → Rows
include s at = word (bytes "include") s at and λ a. hard_gap missing_gap s a and λ b. hard_string s b and λ e. must missing e (line_end s e)

unfoldable pub tagged : String → List ℕ → ℕ → Rows
tagged w s at = word (bytes w) s at and λ a. gap s a and λ b. tag s b and λ e. To e (span tag_kind (b + 1) e ∷ [])
