-- Demand 3. Take a tail that starts a line with a digit or small letter, that plain reading accepts, and none of whose
-- strings, as document 01 counts them, holds a line starting so. Put any bytes before it, none or ending in a line
-- feed. With the size limit kept and room for all rows, recovering reading gives for the tail plain reading's rows,
-- moved by the length and line feeds before it. A refused block gives one refusal row.
--
-- It is said of both profiles, K: strict reading of a tail, and strict recovering reading, as plain reading and
-- recovering reading.
--
-- The reading rules enter by three names alone: `reading_by`, plain or strict reading; `recovered_by`, recovering
-- reading; `strings`, demand 3's strings.
use Rattle.std.specs.Prelude.{ℕ, ◌+◌, ◌*◌, ◌≤◌, ◌≡◌, Bool, true, false, ◌||◌, ◌&&◌, List, [], ◌∷◌, ◌++◌, eqb, pos, length, drop, Ok}
use Prim.Native.Char.{code}
use Rattle.text.specs.Bytes.{is_digit, is_small}
use Rattle.text.specs.Permitted.{size_limit}
use Rattle.row.specs.declared.table.Row.{Row}
use Rattle.row.specs.Row.{row_of, rows_bytes, width, feeds, room}
use Rattle.text.specs.Boundaries.{holds}
use Rattle.entry.specs.Strings.{strings, NoneHolds}
use Rattle.ledger.specs.Plain.{moved, accepted, denied}
use Rattle.ledger.specs.Strict.{reading_by}
use Rattle.ledger.specs.Answers.{answer, left}
use Rattle.ledger.specs.declared.scan.Profile.{Profile}
use Rattle.recovery.specs.Recovering.{recover_by, recovered_by}
use Rattle.amount.specs.Kinds.{refusal_kind}

-- ---- the words of the premises

-- a text that starts with a digit or small letter
unfoldable pub starts_tail : List ℕ → Bool
starts_tail [] = false
starts_tail (b ∷ s) = is_digit b || is_small b

-- a text of no bytes, or one whose last byte is a line feed
unfoldable pub ends_line : List ℕ → Bool
ends_line [] = true
ends_line (b ∷ []) = eqb b (code "\n")
ends_line (b ∷ c ∷ s) = ends_line (c ∷ s)

-- ---- the tail t has the plain rows ts; the bytes p stand before it

pub record Given (K : Profile) (p t : List ℕ) (ts : List Row) : Type 0 where
  pub starts : starts_tail t ≡ true
  pub read : reading_by K t ≡ accepted ts
  pub strings : NoneHolds (strings t ts)
  pub ends : ends_line p ≡ true
  pub size : length (p ++ t) ≤ size_limit

-- the rows ps, then the tail's, moved by the length and the line feeds of p
abbrev pub then_tail : List Row → List ℕ → List Row → List Row
then_tail ps p ts = ps ++ moved (length p) (feeds p) ts

-- the bytes p are accepted alone, and with the tail behind them their rows come first and the tail's, moved, after them
pub record Gives (K : Profile) (p t : List ℕ) (ts : List Row) : Type 0 where
  pub before : List Row
  pub alone : recovered_by K p ≡ accepted before
  pub together : recovered_by K (p ++ t) ≡ accepted (then_tail before p ts)

abbrev pub Demand3 : Profile → Type 0
Demand3 K = (p t : List ℕ) (ts : List Row) → Given K p t ts → Gives K p t ts

-- ---- as a call sees it: on a table with room for the rows rs it answers their number, and the table has their bytes,
-- and past them what it had

pub record Writes (K : Profile) (ledger table : List ℕ) (rs : List Row) : Type 0 where
  pub answers : answer (recovered_by K ledger) (room table) ≡ Ok (length rs)
  pub leaves : left (recovered_by K ledger) table ≡ rows_bytes rs ++ drop (length rs * width) table

abbrev pub Demand3Call : Profile → Type 0
Demand3Call K =
    (p t : List ℕ) (ts ps : List Row) (table : List ℕ) → Given K p t ts → recovered_by K p ≡ accepted ps
    → length (then_tail ps p ts) ≤ room table → Writes K (p ++ t) table (then_tail ps p ts)

-- ---- on a ledger that is not damaged, and none of whose strings holds such a line, recovering reading is that reading

abbrev pub Undamaged : Profile → Type 0
Undamaged K = (s : List ℕ) (rs : List Row) → reading_by K s ≡ accepted rs → NoneHolds (strings s rs) → recovered_by K s ≡ reading_by K s

-- ---- a refused block gives one refusal row

-- the texts u and v are cut apart where one of them has no bytes, or a boundary stands between them
unfoldable pub cut_apart : List ℕ → List ℕ → Bool
cut_apart [] v = true
cut_apart (b ∷ u) [] = true
cut_apart (b ∷ u) (c ∷ v) = ends_line (b ∷ u) && starts_tail (c ∷ v)

-- x is one block, behind the bytes p and before the bytes t, and reading refuses it with number k at its place q
pub record RefusedBlock (K : Profile) (p x t : List ℕ) (k q : ℕ) : Type 0 where
  pub one : holds x ≡ false
  pub from : cut_apart p x ≡ true
  pub upto : cut_apart x t ≡ true
  pub refused : reading_by K x ≡ denied k q
  pub size : length (p ++ (x ++ t)) ≤ size_limit

-- the block's span and line, the refusal's number, and its place in the ledger
abbrev pub refusal_row : List ℕ → List ℕ → ℕ → ℕ → Row
refusal_row p x k q = row_of refusal_kind (length p) (length p + length x) (feeds p + 1) k (length p + q) (pos 0)

-- the rows of what stands before the block, its one row, and the rows of what stands behind it
abbrev pub OneRefusalRow : Profile → Type 0
OneRefusalRow K =
    (p x t : List ℕ) (k q : ℕ) → RefusedBlock K p x t k q
    → recovered_by K (p ++ (x ++ t)) ≡ accepted (recover_by K (length p) 0 0 p ++ (refusal_row p x k q ∷ recover_by K (length t) (length p + length x) (feeds p + feeds x) t))
