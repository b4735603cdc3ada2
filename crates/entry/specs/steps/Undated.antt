-- Option, include, pushtag and poptag from each of their parts on, as the code reads them.
use Rattle.text.specs.declared.stop.Stop.{Stop}
use Rattle.entry.specs.declared.directive.Formed.{Formed}
use Rattle.text.specs.steps.Told.{Reading}
use Rattle.std.specs.Prelude.{ℕ, ◌+◌, cond, List, [], ◌∷◌, eqb, get_or, Err, Ok}
use Prim.Native.Char.{code}
use Rattle.text.specs.Bytes.{in_line}
use Rattle.text.specs.Run.{run_to}
use Rattle.text.specs.Answer.{Ans, To, more, ◌and◌, ◌else◌, must}
use Rattle.text.specs.Leaves.{gap, hard_gap, tag, line_end}
use Rattle.text.specs.Refusals.{missing, missing_gap}
use Rattle.amount.specs.Kinds.{blank_kind, option_kind, include_kind, pushtag_kind, poptag_kind, tag_kind, string_kind}
use Rattle.amount.specs.declared.detail.Detail.{Detail}
use Rattle.amount.specs.Details.{Rows, span, quoted}
use Rattle.row.specs.declared.writer.Out.{Out}
use Rattle.content.specs.Contents.{hard_string}
use Rattle.entry.specs.Directive.{option, include, tagged}
use Rattle.entry.specs.Forms.{Form, as_entry, blank}

-- ---- what follows the words

unfoldable pub gap_quoted : List ℕ → ℕ → Rows
gap_quoted s at = gap s at and λ b. quoted (span string_kind) s b

-- after an option's first string, whose row is x
unfoldable pub option_end : Detail → List ℕ → ℕ → Rows
option_end x s at = more (x ∷ []) (gap s at and λ d. quoted (span string_kind) s d and λ e. line_end s e)

unfoldable pub option_of : List ℕ → ℕ → Rows
option_of s at = gap s at and λ b. quoted (span string_kind) s b and λ c. gap s c and λ d. quoted (span string_kind) s d and λ e. line_end s e

unfoldable pub include_end : List ℕ → ℕ → Rows
include_end s at = hard_string s at and λ e. must missing e (line_end s e)

unfoldable pub include_of : List ℕ → ℕ → Rows
include_of s at = hard_gap missing_gap s at and λ b. include_end s b

unfoldable pub tag_of : List ℕ → ℕ → Rows
tag_of s at = gap s at and λ b. tag s b and λ e. To e (span tag_kind (b + 1) e ∷ [])

-- the code's answer at a line that is no other entry, where o is held
unfoldable pub blank_formed : List ℕ → Out → Reading Formed
blank_formed s o = let e = run_to in_line s 0 in cond (eqb (get_or s e 0) (code "\n")) (Ok ((e + 1), record { kind = blank_kind; date = 0; out = o })) (Err Stop.Miss)

-- ---- the forms, each else the next

unfoldable pub poptag_form : List ℕ → Ans Form
poptag_form s = as_entry poptag_kind 0 (tagged "poptag" s 0)

unfoldable pub pushtag_form : List ℕ → Ans Form
pushtag_form s = as_entry pushtag_kind 0 (tagged "pushtag" s 0) else poptag_form s

unfoldable pub include_form : List ℕ → Ans Form
include_form s = as_entry include_kind 0 (include s 0) else pushtag_form s

unfoldable pub option_form : List ℕ → Ans Form
option_form s = as_entry option_kind 0 (option s 0) else include_form s

unfoldable pub undated : List ℕ → Ans Form
undated s = option_form s else blank s
