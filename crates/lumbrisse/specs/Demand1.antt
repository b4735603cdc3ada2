-- Demand 1. Any bytes at all get either rows or a numbered refusal with its place. No call relies on its caller. After
-- a refusal every lent buffer holds what it held.
--
-- Said of document 01's calls, for every input (`Demand1Requests.antt` says it of document 02's). An answer that meets
-- the export's promise, which is the `ensures` above its code (`src/lib.rt`), is one of three, and after the last two
-- what was lent to be written is as it was:
--     accepts   number 0, with the rows or the value that the definitions give
--     lacks     number 9 at place 0; the count is what the definitions need, and that is more than was lent
--     refuses   where the definitions refuse: their number, which is one of the call's own list, at their place, which
--               is within the text (and 0 for number 1), and no count
-- An expression and a tag never lack anything, and a span is never refused. For every input one answer meets the
-- promise, and no second one does (`proofs/Unique.antt`).
use Rattle.std.specs.Prelude.{ℕ, ◌+◌, ◌*◌, ◌≤◌, ◌<◌, ◌≡◌, true, false, ◌⊎◌, List, [], ◌∷◌, ◌++◌, length, take, drop, Err, Ok}
use Rattle.decimal.specs.Exact.{whole_of, twos_of}
use Rattle.decimal.specs.declared.Decimal.{Decimal}
use Rattle.decimal.specs.declared.Form.{Form}
use Rattle.text.specs.Refusals.{Refusal, refused_with}
use Rattle.row.specs.declared.table.Row.{Row}
use Rattle.row.specs.Row.{rows_bytes, width, room}
use Rattle.ledger.specs.Plain.{Reading, accepted, denied, plain}
use Rattle.recovery.specs.Recovering.{recovered}
use Rattle.access.specs.Single.{evaluated}
use Rattle.access.specs.Contents.{valid, unescaped}
use Rattle.access.specs.Tables.{in_force}
use Rattle.access.specs.Spans.{span_text}
use Rattle.lumbrisse.specs.declared.reply.Reply.{Reply}
use Rattle.lumbrisse.specs.declared.reply.Evaluated.{Evaluated}
use Rattle.lumbrisse.specs.declared.reply.Part.{Part}
use Rattle.lumbrisse.specs.Numbers.{replied, part_of}
use Rattle.lumbrisse.specs.Promises.{TablePromise, ContentPromise, ExpressionPromise, TagPromise, SpanPromise}

-- ---- one of three: the answer r of a call on a text of `size` bytes that refuses with the numbers of `list`

pub data Answers (list : List ℕ) (size : ℕ) (Gives Lacks : ℕ → Type 0) (Denied : ℕ → ℕ → Type 0) (Kept : Type 0)
    (r : Reply) : Type 0 where
  -- with a count n, of which Gives says what it counts
  accepts : (n : ℕ) → r ≡ replied 0 0 n → Gives n → Answers list size Gives Lacks Denied Kept r
  -- with a need n, of which Lacks says what needs it
  lacks : (n : ℕ) → r ≡ replied 9 0 n → Lacks n → Kept → Answers list size Gives Lacks Denied Kept r
  -- with number n at place p
  refuses : (n p : ℕ) → r ≡ replied n p 0 → Denied n p → Refusal list size n p → Kept
      → Answers list size Gives Lacks Denied Kept r

-- plain reading's list
abbrev pub plain_numbers : List ℕ
plain_numbers = 1 ∷ 2 ∷ 3 ∷ 4 ∷ 5 ∷ 6 ∷ 7 ∷ 8 ∷ []

-- of a call that is never refused with 9
abbrev pub Never : ℕ → Type 0
Never n = ⊥

-- ---- rows: a reading of a ledger into a table t, which is u afterwards, where D is what the definitions give

-- n rows from the table's front, and bytes past the last one as they were
pub record HasRows (D : Reading) (t u : List ℕ) (n : ℕ) : Type 0 where
  pub rows : List Row
  pub defined : D ≡ accepted rows
  pub number : n ≡ length rows
  pub fit : n ≤ room t
  pub table : u ≡ rows_bytes rows ++ drop (n * width) t

-- n rows, for which the table has no room
pub record NoRoom (D : Reading) (t : List ℕ) (n : ℕ) : Type 0 where
  pub rows : List Row
  pub defined : D ≡ accepted rows
  pub number : n ≡ length rows
  pub over : room t < n

abbrev pub ReadsRows : List ℕ → List ℕ → Reading → List ℕ → List ℕ → Reply → Type 0
ReadsRows list s D t u r = Answers list (length s) (HasRows D t u) (NoRoom D t) (λ n p. D ≡ denied n p) (u ≡ t) r

-- ---- bytes: x into a buffer t, which is u afterwards; `returned` is the need that 9 returns for them

pub record HasBytes (x t u : List ℕ) (n : ℕ) : Type 0 where
  pub number : n ≡ length x
  pub fit : n ≤ length t
  pub buffer : u ≡ x ++ drop n t

pub record NoSpace (x t : List ℕ) (returned n : ℕ) : Type 0 where
  pub number : n ≡ returned
  pub over : length t < length x

-- where Good holds; Bad says what refuses, at place 0
abbrev pub Fills : List ℕ → List ℕ → Type 0 → (ℕ → Type 0) → List ℕ → ℕ → List ℕ → List ℕ → Reply → Type 0
Fills list s Good Bad x returned t u r =
    Answers list (length s) (λ n. Good × HasBytes x t u n) (λ n. Good × NoSpace x t returned n)
    (λ n p. Bad n × (p ≡ 0)) (u ≡ t) r

-- ---- the calls whose answers have other numbers

-- one expression in a form: the value that is defined, and where it stops
pub data Evaluates (form : Form) (s : List ℕ) (r : Evaluated) : Type 0 where
  valued : (e : ℕ) (v : Decimal) → r ≡ record { number = 0; place = e; bits = twos_of (whole_of v) }
      → evaluated form s ≡ Ok (e, v) → Evaluates form s r
  unvalued : (n p : ℕ) → r ≡ record { number = n; place = p; bits = 0 }
      → evaluated form s ≡ Err (refused_with n p 0) → Refusal (1 ∷ 2 ∷ 3 ∷ 11 ∷ 6 ∷ 7 ∷ 8 ∷ []) (length s) n p
      → Evaluates form s r

-- a tag: 1 where it is in force, 0 where it is not
abbrev pub TagSaid : List ℕ → List ℕ → ℕ → List ℕ → ℕ → Type 0
TagSaid s t k tag n = ((in_force s t k tag ≡ Ok true) × (n ≡ 1)) ⊎ ((in_force s t k tag ≡ Ok false) × (n ≡ 0))

-- a span is never refused: a part of the ledger, which is the span's text, and empty, at 0, for a bad span
pub record PartOf (s : List ℕ) (a e : ℕ) (r : Part) : Type 0 where
  pub part : r ≡ part_of s a e
  pub within : r.start + r.length ≤ length s
  pub text : take r.length (drop r.start s) ≡ span_text s a e

-- ---- document 01's calls

pub record Demand1 : Type 0 where
  pub read : (s t : List ℕ) (r : Reply) (u : List ℕ) → TablePromise (plain s) t r u
      → ReadsRows plain_numbers s (plain s) t u r
  pub recover : (s t : List ℕ) (r : Reply) (u : List ℕ) → TablePromise (recovered s) t r u
      → ReadsRows (1 ∷ []) s (recovered s) t u r
  pub expression : (form : Form) (s : List ℕ) (r : Evaluated) → ExpressionPromise form s r → Evaluates form s r
  pub content : (c t : List ℕ) (r : Reply) (u : List ℕ) → ContentPromise c t r u
      → Fills (10 ∷ []) c (valid c ≡ true) (λ n. valid c ≡ false) (unescaped c) (length (unescaped c)) t u r
  pub tag_in_force : (s t : List ℕ) (k : ℕ) (tag : List ℕ) (r : Reply) → TagPromise s t k tag r
      → Answers (10 ∷ []) (length s) (TagSaid s t k tag) Never
      (λ n p. (in_force s t k tag ≡ Err (refused_with n 0 0)) × (p ≡ 0)) (Unit {0}) r
  pub span : (s : List ℕ) (a e : ℕ) (r : Part) → SpanPromise s a e r → PartOf s a e r
