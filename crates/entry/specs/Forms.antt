-- Rules 1 and 4: one entry at the front of a text.
use Rattle.std.specs.Prelude.{ℕ, ◌+◌, cond, List, [], eqb, get_or}
use Prim.Native.Char.{code}
use Rattle.text.specs.Bytes.{in_line}
use Rattle.text.specs.Run.{run_to}
use Rattle.text.specs.Answer.{Ans, To, Miss, Hard, ◌then◌, ◌else◌}
use Rattle.text.specs.Leaves.{hard_gap, date}
use Rattle.text.specs.Refusals.{missing_gap}
use Rattle.amount.specs.Kinds.{blank_kind, option_kind, include_kind, pushtag_kind, poptag_kind, transaction_kind, price_kind, balance_kind, open_kind, close_kind, pad_kind, commodity_kind, event_kind}
use Rattle.amount.specs.declared.detail.Detail.{Detail}
use Rattle.amount.specs.Details.{Rows}
use Rattle.amount.specs.Amounts.{hard_currency, price_of}
use Rattle.transaction.specs.Transaction.{transaction}
use Rattle.content.specs.Contents.{hard_account, balance_of, open_of, pad_of, event_of}
use Rattle.entry.specs.Directive.{keyword, option, include, tagged}

-- what an entry reads besides its length: its kind, its date or 0, its details
pub record Form : Type 0 where
  pub kind : ℕ
  pub date : ℕ
  pub details : List Detail

unfoldable pub as_entry : ℕ → ℕ → Rows → Ans Form
as_entry k d (To n rs) = To n (record { kind = k; date = d; details = rs })
as_entry k d Miss = Miss
as_entry k d (Hard n p) = Hard n p

-- Rule 4. After the date and its gap: a transaction, or one of the keywords.
unfoldable pub dateless : ℕ → List ℕ → ℕ → Ans Form
dateless d s g =
    let booked = as_entry transaction_kind d (transaction s g) in
    let price = as_entry price_kind d (keyword "price" price_of s g) in
    let balance = as_entry balance_kind d (keyword "balance" balance_of s g) in
    let opens = as_entry open_kind d (keyword "open" open_of s g) in
    let close = as_entry close_kind d (keyword "close" hard_account s g) in
    let pad = as_entry pad_kind d (keyword "pad" pad_of s g) in
    let commodity = as_entry commodity_kind d (keyword "commodity" hard_currency s g) in
    let event = as_entry event_kind d (keyword "event" event_of s g) in
    booked else price else balance else opens else close else pad else commodity else event

-- Directive: date, gap (hard), and that.
unfoldable pub directive : List ℕ → Ans Form
directive s = date s 0 then λ e d. hard_gap {A = Detail} missing_gap s e then λ g _. dateless d s g

-- a line up to and with its LF or CRLF (a CR stands only before an LF): end of ledger doesn't end one
unfoldable pub blank : List ℕ → Ans Form
blank s = let e = run_to in_line s 0 in cond (eqb (get_or s e 0) (code "\n")) (as_entry blank_kind 0 (To (e + 1) [])) Miss

-- Rule 1. Entry: directive, option, include, pushtag or poptag, else a line.
unfoldable pub form_of : List ℕ → Ans Form
form_of s =
    let dated = directive s in
    let opt = as_entry option_kind 0 (option s 0) in
    let inc = as_entry include_kind 0 (include s 0) in
    let push = as_entry pushtag_kind 0 (tagged "pushtag" s 0) in
    let pop = as_entry poptag_kind 0 (tagged "poptag" s 0) in
    let line = blank s in
    dated else opt else inc else push else pop else line
