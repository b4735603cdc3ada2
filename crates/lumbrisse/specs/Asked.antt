-- What the lists of documents 01 and 02 ask of a text, and what a text answers, so that questions to several calls and
-- rules stand in one list.
use Rattle.std.specs.Prelude.{ℕ, ◌-◌, List, ◌∷◌, length, Option}
use Rattle.decimal.specs.declared.Form.{Form}
use Rattle.decimal.specs.Exact.{word_limit}
use Rattle.text.specs.Currencies
use Rattle.text.specs.Strings
use Rattle.row.specs.declared.table.Row as declared
use Rattle.ledger.specs.Plain
use Rattle.ledger.specs.Opened.{opened}
use Rattle.access.specs.Contents
use Rattle.access.specs.Single
use Rattle.lumbrisse.specs.declared.reply.Evaluated.{Evaluated}
use Rattle.lumbrisse.specs.declared.reply.Reply.{Reply}
use Rattle.lumbrisse.specs.Numbers.{evaluated_of, reply_of}

pub data Asked : Type 0 where
  -- the call for one expression, in a form
  expression : Form → List ℕ → Asked
  -- plain reading
  ledger : List ℕ → Asked
  -- the call for string content, with a buffer as long as the content
  content : List ℕ → Asked
  -- rule 7, at the text's start
  currency : List ℕ → Asked
  -- rule 5, at the text's start
  string : List ℕ → Asked

pub data Told : Type 0 where
  evaluated : Evaluated → Told
  reading : Plain.Reading → Told
  reply : Reply → Told
  token : Option ℕ → Told

-- what the definitions of the promises answer
unfoldable pub answered : Asked → Told
unfolding opened Contents.ends_at Contents.valid Contents.unescaped Contents.escaped_byte Contents.content_answer
    Single.value_answer Single.read_answer Single.evaluated evaluated_of reply_of
answered (expression form s) = evaluated (evaluated_of (Single.evaluated form s))
answered (ledger s) = reading (Plain.plain s)
answered (content s) = reply (reply_of (Contents.content_answer s (length s)))
answered (currency s) = token (Currencies.currency_at s 0)
answered (string s) = token (Strings.string_at s 0)

-- an expression in a form that stops at e: so many millionths, or as many below zero in two's complement
abbrev pub stops : Form → List ℕ → ℕ → ℕ → Asked × Told
stops form s e n = (expression form s, evaluated (record { number = 0; place = e; bits = n }))

abbrev pub stops_below : Form → List ℕ → ℕ → ℕ → Asked × Told
stops_below form s e n = stops form s e (word_limit - n)

-- one that is refused with a number, at a place
abbrev pub refuses : Form → List ℕ → ℕ → ℕ → Asked × Told
refuses form s n p = (expression form s, evaluated (record { number = n; place = p; bits = 0 }))

-- a row: kind, start, end, line, p, q, value
abbrev pub row : ℕ → ℕ → ℕ → ℕ → ℕ → ℕ → ℕ → declared.Row
row k a e l p q v = record { kind = k; start = a; end = e; line = l; p = p; q = q; bits = v }

-- the rows of `2024-01-01 *` and a posting ` A:B 1 X {..}` that ends there: the cost's own come last
abbrev pub with_cost : ℕ → List declared.Row → List declared.Row
with_cost e cost =
    row 6 0 e 1 20240101 5 0
    ∷ row 20 11 12 1 0 0 0
    ∷ row 33 14 17 2 0 0 0
    ∷ row 26 18 19 2 20 21 1000000
    ∷ cost
