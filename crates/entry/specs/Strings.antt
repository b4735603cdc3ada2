-- Demand 3's strings are the spans of kinds 21, 22, 32, 34, the values of 35, and both strings of an event line whose
-- line end misses: such a line is a blank entry, so no row names these two.
use Rattle.std.specs.Prelude.{ℕ, ◌≡◌, false, cond, ◌||◌, List, [], ◌∷◌, ◌++◌, map, eqb, ltb, drop}
use Rattle.text.specs.Bytes.{bytes, between}
use Rattle.text.specs.Every.{Every}
use Rattle.text.specs.Answer.{To, Miss, Hard, ◌then◌, ◌and◌}
use Rattle.text.specs.Leaves.{hard_gap, date, word, line_end}
use Rattle.text.specs.Refusals.{missing_gap}
use Rattle.text.specs.Boundaries.{holds}
use Rattle.amount.specs.Kinds.{first_detail, payee_kind, narration_kind, booking_kind, string_kind, string_meta_kind}
use Rattle.amount.specs.declared.detail.Detail.{Detail}
use Rattle.amount.specs.Details.{Rows}
use Rattle.row.specs.declared.table.Row.{Row}
use Rattle.content.specs.Contents.{event_of}

-- of a row of the text t: the span of kinds 21, 22, 32, 34, the value of 35
unfoldable pub row_strings : List ℕ → Row → List (List ℕ)
row_strings t r =
    let k = r.kind in
    let span = between t r.start r.end in
    let value = between t r.p r.q in
    cond (eqb k payee_kind || eqb k narration_kind || eqb k booking_kind || eqb k string_kind) (span ∷ []) (cond (eqb k string_meta_kind) (value ∷ []) [])

-- ---- an event line at the front of the text t (rules 4 and 10), whose line end misses

-- an answer, where another is a miss
unfoldable pub unless : Rows → Rows → Rows
unless (To j rs) a = Miss
unless Miss a = a
unless (Hard k p) a = Miss

-- date, gap, `event`, gap, content, and no line end: the content's rows, one for each string
unfoldable pub lost_event : List ℕ → Rows
lost_event t =
    date t 0 then λ a _. hard_gap missing_gap t a and λ b. word (bytes "event") t b and λ c. hard_gap missing_gap t c and λ d.
    event_of t d then λ e rs. unless (line_end t e) (To e rs)

unfoldable pub spans : List ℕ → Rows → List (List ℕ)
spans t (To j ds) = map (λ (d : Detail). between t d.start d.end) ds
spans t Miss = []
spans t (Hard k p) = []

-- both strings of such a line; none where there is no such line
unfoldable pub lost_strings : List ℕ → List (List ℕ)
lost_strings t = spans t (lost_event t)

-- ---- the strings of a text t with these rows

-- where an entry starts, such a line may stand
unfoldable pub strings : List ℕ → List Row → List (List ℕ)
strings t [] = []
strings t (r ∷ rs) = row_strings t r ++ (cond (ltb r.kind first_detail) (lost_strings (drop r.start t)) [] ++ strings t rs)

-- none of these texts holds a line that starts with a digit or small letter
abbrev pub NoneHolds : List (List ℕ) → Type 0
NoneHolds xs = Every (λ (x : List ℕ). holds x ≡ false) xs
