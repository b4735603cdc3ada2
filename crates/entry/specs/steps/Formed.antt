-- Forms of an entry, as the code reads them: its answers, each from a rule's answer, and what was done.
use Rattle.entry.specs.declared.directive.Formed.{Formed}
use Rattle.text.specs.declared.stop.Stop.{Stop}
use Rattle.text.specs.steps.Told.{Reading}
use Rattle.std.specs.Prelude.{ℕ, List, [], map, ◌≡◌, None, Option, Some, Result, Err, Ok}
use Rattle.text.specs.Bytes.{bytes}
use Rattle.text.specs.Words.{word_at}
use Rattle.text.specs.Answer.{Ans, To, Miss, Hard, ◌and◌, ◌else◌}
use Rattle.amount.specs.Kinds.{price_kind, balance_kind, open_kind, close_kind, pad_kind, commodity_kind, event_kind}
use Rattle.amount.specs.Details.{Rows}
use Rattle.amount.specs.Amounts.{hard_currency, price_of}
use Rattle.row.specs.declared.writer.Out.{Out}
use Rattle.row.specs.steps.Writing.{laid, outs, Poured}
use Rattle.content.specs.Contents.{hard_account, balance_of, open_of, pad_of, event_of}
use Rattle.entry.specs.Directive.{keyword}
use Rattle.entry.specs.Forms.{Form, as_entry}
use Rattle.content.specs.steps.Parts.{content_of}
use Rattle.posting.specs.Metadata.{metadata}
use Rattle.text.specs.Leaves.{hard_gap, line_end}
use Rattle.text.specs.Refusals.{missing_gap}

-- a keyword of a kind, or what the next gives
unfoldable pub or_keyword : ℕ → Option ℕ → Option (ℕ × ℕ) → Option (ℕ × ℕ)
or_keyword k (Some e) next = Some (k, e)
or_keyword k None next = next

unfoldable pub late_keyword : List ℕ → ℕ → Option (ℕ × ℕ)
late_keyword s at =
    or_keyword pad_kind (word_at (bytes "pad") s at) (or_keyword commodity_kind (word_at (bytes "commodity") s at) (or_keyword event_kind (word_at (bytes "event") s at) None))

unfoldable pub middle_keyword : List ℕ → ℕ → Option (ℕ × ℕ)
middle_keyword s at = or_keyword open_kind (word_at (bytes "open") s at) (or_keyword close_kind (word_at (bytes "close") s at) (late_keyword s at))

unfoldable pub keyword_at : List ℕ → ℕ → Option (ℕ × ℕ)
keyword_at s at = or_keyword price_kind (word_at (bytes "price") s at) (or_keyword balance_kind (word_at (bytes "balance") s at) (middle_keyword s at))

unfoldable pub content_end : ℕ → List ℕ → ℕ → Rows
content_end k s at = content_of k s at and λ m. line_end s m and λ l. metadata s l

unfoldable pub gap_content : ℕ → List ℕ → ℕ → Rows
gap_content k s at = hard_gap missing_gap s at and λ g. content_end k s g

-- the seven keywords with their contents
unfoldable pub by_keyword : ℕ → List ℕ → ℕ → Ans Form
by_keyword d s g =
    let price = as_entry price_kind d (keyword "price" price_of s g) in
    let balance = as_entry balance_kind d (keyword "balance" balance_of s g) in
    let opens = as_entry open_kind d (keyword "open" open_of s g) in
    let close = as_entry close_kind d (keyword "close" hard_account s g) in
    let pad = as_entry pad_kind d (keyword "pad" pad_of s g) in
    let commodity = as_entry commodity_kind d (keyword "commodity" hard_currency s g) in
    let event = as_entry event_kind d (keyword "event" event_of s g) in
    price else balance else opens else close else pad else commodity else event

-- the code's answer of what a reader that writes answered
unfoldable pub formed_of : {E : Type 0} → ℕ → ℕ → Result (ℕ × Out) E → Result (ℕ × Formed) E
formed_of k d (Ok (e, o)) = Ok (e, record { kind = k; date = d; out = o })
formed_of k d (Err stop) = Err stop

-- what was done for a form: as Did of row
abbrev pub DidForm : ℕ → Ans Form → Out → List ℕ → List ℕ → Reading Formed → Type 0
DidForm base (To e f) o t u r =
    (r ≡ Ok (e, record { kind = f.kind; date = f.date; out = outs o f.details })) × Poured o.rows (map (laid base) f.details) t u
DidForm base Miss o t u r = (r ≡ Err Stop.Miss) × Poured o.rows [] t u
DidForm base (Hard k p) o t u r = r ≡ Err (Stop.Hard k p)
