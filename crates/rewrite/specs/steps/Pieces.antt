-- What a row writes, as the code goes through the kinds.
use Rattle.std.specs.Prelude.{ℕ, ◌<◌, ◌≡◌, cond, List, [], ◌∷◌, ◌++◌, eqb, ltb}
use Prim.Native.Char.{code}
use Rattle.text.specs.Bytes.{bytes}
use Rattle.text.specs.Every.{Every}
use Rattle.amount.specs.Kinds.{first_detail, transaction_kind, price_kind, balance_kind, open_kind, close_kind, pad_kind, commodity_kind, flag_kind, amount_kind, posting_kind, string_meta_kind, number_meta_kind}
use Rattle.row.specs.declared.table.Row.{Row}
use Rattle.layout.specs.Meaning.{Item}
use Rattle.layout.specs.Written.{value_text, quotes, head_text, detail_text, closing}
use Rattle.rewrite.specs.steps.Putting.{ended}

-- no row
abbrev pub no_row : Row
no_row = record { kind = 0; start = 0; end = 0; line = 0; p = 0; q = 0; bits = 0 }

-- the first row, or none
abbrev pub front : List Row → Row
front [] = no_row
front (x ∷ xs) = x

-- a posting's flag is a byte
pub record Flagged (x : Row) : Type 0 where
  pub low : x.kind ≡ posting_kind → x.p < 256

abbrev pub AllFlagged : List Row → Type 0
AllFlagged xs = Every Flagged xs

-- behind an entry's date
unfoldable pub dated_text : ℕ → ℕ → List ℕ
dated_text k next =
    cond (eqb k transaction_kind) (cond (eqb next flag_kind) [] (bytes " txn"))
    (cond (eqb k price_kind) (bytes " price")
    (cond (eqb k balance_kind) (bytes " balance")
    (cond (eqb k open_kind) (bytes " open")
    (cond (eqb k close_kind) (bytes " close")
    (cond (eqb k pad_kind) (bytes " pad")
    (cond (eqb k commodity_kind) (bytes " commodity") (bytes " event")))))))

-- the brace of a cost with a date or 0
unfoldable pub cost_text : ℕ → ℕ → List ℕ
cost_text date next = bytes " {" ++ cond (eqb next amount_kind) [] (ended [] date)

-- a posting's line: a flag or 0, and its account
unfoldable pub posting_line : ℕ → List ℕ → List ℕ
posting_line flag account = bytes "\n  " ++ (cond (eqb flag 0) [] (flag ∷ code " " ∷ []) ++ account)

-- a line of metadata: its key and its value
unfoldable pub meta_line : List ℕ → Item → List ℕ
meta_line key d =
    bytes "\n  "
    ++ (key
    ++ (bytes ": "
    ++ cond (eqb d.kind string_meta_kind) (quotes d.other) (cond (eqb d.kind number_meta_kind) (value_text d.bits) d.other)))

-- what a row writes, where k is the kind of the entry that is being written
unfoldable pub piece_text : ℕ → Item → Item → ℕ → List ℕ
piece_text k prev d next = cond (ltb d.kind first_detail) (closing k ++ head_text d next) (detail_text prev d next)

-- the kind of the entry that is being written, behind a row
unfoldable pub kind_now : ℕ → ℕ → ℕ
kind_now kind k = cond (ltb kind first_detail) kind k
