-- M-103. A ledger written afresh: single spaces, two-space indents, expressions replaced by their values without
-- trailing zeros, comments and empty lines inside entries dropped, blank entries kept byte by byte.
use Rattle.std.specs.Prelude.{ℕ, zero, suc, ◌+◌, ◌-◌, ◌/◌, ◌%◌, Bool, true, cond, ◌&&◌, ◌||◌, List, [], ◌∷◌, ◌++◌, eqb, leb, ltb}
use Prim.Native.Char.{code}
use Rattle.decimal.specs.Exact.{word_limit, minus_from}
use Rattle.text.specs.Bytes.{bytes}
use Rattle.amount.specs.Kinds.{blank_kind, option_kind, include_kind, pushtag_kind, poptag_kind, transaction_kind, price_kind, balance_kind, open_kind, close_kind, pad_kind, commodity_kind}
use Rattle.amount.specs.Kinds.{first_detail, flag_kind, payee_kind, narration_kind, tag_kind, link_kind, account_kind, amount_kind, tolerance_kind, cost_kind, unit_price_kind, total_price_kind}
use Rattle.amount.specs.Kinds.{currency_kind, booking_kind, posting_kind, string_kind, string_meta_kind, number_meta_kind}
use Rattle.row.specs.declared.table.Row.{Row}
use Rattle.layout.specs.Meaning.{Item, meaning}

-- ---- numbers

-- the last digit of a number
abbrev pub digit : ℕ → ℕ
digit n = code "0" + n % 10

-- a whole number in digits: k + 1 of them at the most
unfoldable pub whole_text : ℕ → ℕ → List ℕ
whole_text zero n = digit n ∷ []
whole_text (suc k) n = let front = whole_text k (n / 10) in cond (ltb n 10) (digit n ∷ []) (front ++ (digit n ∷ []))

-- whether all digits are 0
unfoldable pub zeros : List ℕ → Bool
zeros [] = true
zeros (b ∷ s) = eqb b (code "0") && zeros s

-- digits without trailing zeros
unfoldable pub trimmed : List ℕ → List ℕ
trimmed [] = []
trimmed (b ∷ s) = cond (zeros (b ∷ s)) [] (b ∷ trimmed s)

-- six digits
unfoldable pub six : ℕ → List ℕ
six n = digit (n / 100000) ∷ digit (n / 10000) ∷ digit (n / 1000) ∷ digit (n / 100) ∷ digit (n / 10) ∷ digit n ∷ []

-- so many millionths below 1: no point without digits behind it
unfoldable pub fraction_text : ℕ → List ℕ
fraction_text n = cond (zeros (six n)) [] (code "." ∷ trimmed (six n))

-- so many millionths: the limit of values leaves nine digits before the point
unfoldable pub size_text : ℕ → List ℕ
size_text n = whole_text 8 (n / 1000000) ++ fraction_text (n % 1000000)

-- a row's value, which stands in eight bytes, two's complement
unfoldable pub value_text : ℕ → List ℕ
value_text v = cond (leb minus_from v) (code "-" ∷ size_text (word_limit - v)) (size_text v)

-- year times 10,000 plus month times 100 plus day
unfoldable pub date_text : ℕ → List ℕ
date_text p =
    digit (p / 10000000) ∷ digit (p / 1000000) ∷ digit (p / 100000) ∷ digit (p / 10000)
    ∷ code "-" ∷ digit (p / 1000) ∷ digit (p / 100)
    ∷ code "-" ∷ digit (p / 10) ∷ digit p ∷ []

-- ---- what each row writes; prev is the row before it and next the kind of the row after it (0: none)

unfoldable pub quotes : List ℕ → List ℕ
quotes t = code "\"" ∷ (t ++ (code "\"" ∷ []))

-- value and currency
unfoldable pub sum_text : Item → List ℕ
sum_text d = value_text d.bits ++ (code " " ∷ d.other)

-- what closes a cost: its date, if there is one, after what parts it from the amount
unfoldable pub brace_end : List ℕ → Item → List ℕ
brace_end sep c = cond (eqb c.number 0) (code "}" ∷ []) (sep ++ (date_text c.number ++ (code "}" ∷ [])))

-- an amount: in a cost after its `{`, before a tolerance without the currency, else after a space
unfoldable pub amount_text : Item → Item → ℕ → List ℕ
amount_text prev d next =
    cond (eqb prev.kind cost_kind) (sum_text d ++ brace_end (bytes ", ") prev)
    (code " " ∷ cond (eqb next tolerance_kind) (value_text d.bits) (sum_text d))

-- a line of metadata: key and value
unfoldable pub meta_text : Item → List ℕ → List ℕ
meta_text d v = code " " ∷ code " " ∷ (d.text ++ (code ":" ∷ code " " ∷ v))

-- a posting's account, after its flag and a space if it has one
unfoldable pub posting_text : Item → List ℕ
posting_text d = code " " ∷ code " " ∷ (cond (eqb d.number 0) [] (d.number ∷ code " " ∷ []) ++ d.text)

-- the kinds of entries
unfoldable pub head_text : Item → ℕ → List ℕ
head_text d next =
    cond (eqb d.kind blank_kind) d.text
    (cond (eqb d.kind option_kind) (bytes "option")
    (cond (eqb d.kind include_kind) (bytes "include")
    (cond (eqb d.kind pushtag_kind) (bytes "pushtag")
    (cond (eqb d.kind poptag_kind) (bytes "poptag")
    (date_text d.number ++
    (cond (eqb d.kind transaction_kind) (cond (eqb next flag_kind) [] (bytes " txn"))
    (cond (eqb d.kind price_kind) (bytes " price")
    (cond (eqb d.kind balance_kind) (bytes " balance")
    (cond (eqb d.kind open_kind) (bytes " open")
    (cond (eqb d.kind close_kind) (bytes " close")
    (cond (eqb d.kind pad_kind) (bytes " pad")
    (cond (eqb d.kind commodity_kind) (bytes " commodity") (bytes " event")))))))))))))

-- the kinds of details
unfoldable pub detail_text : Item → Item → ℕ → List ℕ
detail_text prev d next =
    cond (eqb d.kind flag_kind || eqb d.kind account_kind) (code " " ∷ d.text)
    (cond (eqb d.kind payee_kind || eqb d.kind narration_kind || eqb d.kind booking_kind || eqb d.kind string_kind)
    (code " " ∷ quotes d.text)
    (cond (eqb d.kind tag_kind) (code " " ∷ code "#" ∷ d.text)
    (cond (eqb d.kind link_kind) (code " " ∷ code "^" ∷ d.text)
    (cond (eqb d.kind amount_kind) (amount_text prev d next)
    (cond (eqb d.kind tolerance_kind) (bytes " ~ " ++ (value_text d.bits ++ (code " " ∷ prev.other)))
    (cond (eqb d.kind cost_kind) (bytes " {" ++ cond (eqb next amount_kind) [] (brace_end [] d))
    (cond (eqb d.kind unit_price_kind) (bytes " @ " ++ sum_text d)
    (cond (eqb d.kind total_price_kind) (bytes " @@ " ++ sum_text d)
    (cond (eqb d.kind currency_kind) (cond (eqb prev.kind currency_kind) (bytes ", " ++ d.text) (code " " ∷ d.text))
    (cond (eqb d.kind posting_kind) (code "\n" ∷ posting_text d)
    (cond (eqb d.kind string_meta_kind) (code "\n" ∷ meta_text d (quotes d.other))
    (cond (eqb d.kind number_meta_kind) (code "\n" ∷ meta_text d (value_text d.bits))
    (code "\n" ∷ meta_text d d.other)))))))))))))

-- an entry of kind k, but for a blank one, a pushtag and a poptag, ends with a line feed; 0 is no entry
unfoldable pub closing : ℕ → List ℕ
closing k = cond (leb k blank_kind || eqb k pushtag_kind || eqb k poptag_kind) [] (code "\n" ∷ [])

abbrev pub kind_of : List Item → ℕ
kind_of [] = 0
kind_of (d ∷ ds) = d.kind

-- row by row; k is the kind of the entry that is being written, or 0
unfoldable pub printed : ℕ → Item → List Item → List ℕ
printed k prev [] = closing k
printed k prev (d ∷ ds) =
    let entry = closing k ++ (head_text d (kind_of ds) ++ printed d.kind d ds) in
    let detail = detail_text prev d (kind_of ds) ++ printed k d ds in
    cond (ltb d.kind first_detail) entry detail

abbrev pub no_item : Item
no_item = record { kind = 0; text = []; other = []; number = 0; bits = 0 }

unfoldable pub written : List ℕ → List Row → List ℕ
written s rs = printed 0 no_item (meaning s rs)
