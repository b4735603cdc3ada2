-- A transaction from each of its parts on, as the code reads it.
use Rattle.text.specs.declared.stop.Stop.{Stop}
use Rattle.text.specs.steps.Told.{Reading}
use Rattle.std.specs.Prelude.{ℕ, ◌+◌, ◌-◌, List, [], ◌∷◌, None, Option, Some, Err, Ok}
use Rattle.text.specs.Answer.{To, ◌and◌, ◌else◌, must, maybe}
use Rattle.text.specs.Bytes.{bytes}
use Rattle.text.specs.Lines.{gap_at}
use Rattle.text.specs.Strings.{string_at}
use Rattle.text.specs.Words.{word_at}
use Rattle.text.specs.Leaves.{gap, string, link, line_end}
use Rattle.text.specs.Refusals.{missing}
use Rattle.amount.specs.Kinds.{payee_kind, narration_kind, link_kind}
use Rattle.amount.specs.Details.{Rows, span}
use Rattle.row.specs.declared.writer.Out.{Out}
use Rattle.posting.specs.Metadata.{metadata}
use Rattle.transaction.specs.Transaction.{opening, texts, marks}

-- a word that makes no row
unfoldable pub bare_ran : Option ℕ → Out → Reading Out
bare_ran (Some e) o = Ok (e, o)
bare_ran None o = (Err Stop.Miss)

abbrev pub txn_ran : List ℕ → ℕ → Out → Reading Out
txn_ran s at o = bare_ran (word_at (bytes "txn") s at) o

unfoldable pub with_string : ℕ → Option ℕ → Option (ℕ × ℕ)
with_string a (Some e) = Some (a, e)
with_string a None = None

unfoldable pub after_gap : List ℕ → Option ℕ → Option (ℕ × ℕ)
after_gap s (Some a) = with_string a (string_at s a)
after_gap s None = None

abbrev pub gap_string : List ℕ → ℕ → Option (ℕ × ℕ)
gap_string s at = after_gap s (gap_at s at)

unfoldable pub second_text : List ℕ → ℕ → ℕ → Rows
second_text s a e =
    (gap s e and λ b. string s b and λ f. To f (span payee_kind (a + 1) (e - 1) ∷ span narration_kind (b + 1) (f - 1) ∷ [])) else To e (span narration_kind (a + 1) (e - 1) ∷ [])

unfoldable pub texts_of : List ℕ → ℕ → Rows
texts_of s at = maybe at (texts s at)

unfoldable pub link_mark : List ℕ → ℕ → Rows
link_mark s b = link s b and λ e. To e (span link_kind (b + 1) e ∷ [])

unfoldable pub marked_of : List ℕ → ℕ → Rows
marked_of s at = marks s at and λ c. must missing c (line_end s c) and λ d. metadata s d

unfoldable pub texted_of : List ℕ → ℕ → Rows
texted_of s at = texts_of s at and λ b. marked_of s b

-- all but the postings
unfoldable pub head_of : List ℕ → ℕ → Rows
head_of s at = opening s at and λ a. texted_of s a
