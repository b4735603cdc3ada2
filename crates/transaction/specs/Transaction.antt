-- Rule 11. Transaction: flag (any byte that is no small letter, line feed too) or `txn`; after it all is hard:
-- optionally gap and string, and optionally gap and a second (then the first is the payee); tags and links with
-- optional blanks before each; line end; metadata; then postings and empty lines. What is optional or repeated cannot be
-- missing, so the line end alone can.
use Rattle.std.specs.Prelude.{ℕ, suc, ◌+◌, ◌-◌, List, [], ◌∷◌, length}
use Rattle.text.specs.Bytes.{bytes}
use Rattle.text.specs.Run.{blanks}
use Rattle.text.specs.Answer.{To, ◌and◌, ◌else◌, must, maybe, many}
use Rattle.text.specs.Leaves.{gap, string, word, tag, link, line_end}
use Rattle.text.specs.Refusals.{missing}
use Rattle.amount.specs.Kinds.{flag_kind, payee_kind, narration_kind, tag_kind, link_kind}
use Rattle.amount.specs.Details.{Rows, span}
use Rattle.posting.specs.Metadata.{metadata}
use Rattle.posting.specs.Postings.{flag, body}

-- what opens a transaction: a flag, or `txn`, which has no row
unfoldable pub opening : List ℕ → ℕ → Rows
opening s at =
    let flagged = flag s at and λ e. To e (span flag_kind at e ∷ []) in
    let txn = word (bytes "txn") s at in
    flagged else txn

unfoldable pub texts : List ℕ → ℕ → Rows
texts s at =
    gap s at and λ a. string s a and λ e.
    (gap s e and λ b. string s b and λ f. To f (span payee_kind (a + 1) (e - 1) ∷ span narration_kind (b + 1) (f - 1) ∷ [])) else To e (span narration_kind (a + 1) (e - 1) ∷ [])

-- a tag or a link, with blanks before it
unfoldable pub mark : List ℕ → ℕ → Rows
mark s at =
    let b = blanks s at in
    let tagged = tag s b and λ e. To e (span tag_kind (b + 1) e ∷ []) in
    let linked = link s b and λ e. To e (span link_kind (b + 1) e ∷ []) in
    tagged else linked

unfoldable pub marks : List ℕ → ℕ → Rows
marks s at = many (mark s) (suc (length s)) at

unfoldable pub transaction : List ℕ → ℕ → Rows
transaction s at =
    opening s at and λ a. maybe a (texts s a) and λ b. marks s b and λ c. must missing c (line_end s c) and λ d. metadata s d and λ e. body s e
