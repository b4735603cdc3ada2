-- M-110, the strict profile. Plain reading, and then a judgement of its rows: a ledger that plain reading accepts is
-- refused if it has a lost line (16) or a transaction's flag other than `*` or `!` (17). The first such row decides,
-- with its number, at its start.
use Rattle.std.specs.Prelude.{ℕ, Bool, cond, not, ◌||◌, ◌&&◌, List, [], ◌∷◌, eqb, get_or, Option, is_none}
use Prim.Native.Char.{code}
use Rattle.text.specs.Bytes.{bytes, is_blank, is_digit, between}
use Rattle.text.specs.Words.{starts_with}
use Rattle.text.specs.Lines.{line_end_at}
use Rattle.amount.specs.Kinds.{blank_kind, flag_kind}
use Rattle.row.specs.declared.table.Row.{Row}
use Rattle.ledger.specs.Plain.{Reading, accepted, denied, part, plain}
use Rattle.ledger.specs.declared.scan.Profile.{Profile}
use Rattle.ledger.specs.declared.scan.Profile.TheVariants.{Plain, Strict}

-- ---- what is refused

abbrev pub lost_line_number : ℕ
lost_line_number = 16

abbrev pub flag_number : ℕ
flag_number = 17

abbrev pub missed : Option ℕ → Bool
missed = is_none

-- a blank entry with the text u that starts with a digit, with blanks followed by something other than a comment or
-- line end, or with `option`
unfoldable pub lost_line : List ℕ → Bool
lost_line u = is_digit (get_or u 0 0) || (is_blank (get_or u 0 0) && missed (line_end_at u 0)) || starts_with (bytes "option") u

-- `*` or `!`
abbrev pub is_usual : ℕ → Bool
is_usual b = eqb b (code "*") || eqb b (code "!")

-- a transaction's flag with the text u other than these
unfoldable pub other_flag : List ℕ → Bool
other_flag u = not (is_usual (get_or u 0 0))

-- the number by which a row of the text s is refused, or 0 for none: kind 1 is a blank entry, kind 20 a transaction's
-- flag
unfoldable pub objection : List ℕ → Row → ℕ
objection s r =
    let u = between s r.start r.end in
    cond (eqb r.kind blank_kind) (cond (lost_line u) lost_line_number 0) (cond (eqb r.kind flag_kind) (cond (other_flag u) flag_number 0) 0)

-- ---- strict reading

-- the first row of the text s that is refused, at its start; or w
unfoldable pub first_refused : List ℕ → List Row → Reading → Reading
first_refused s [] w = w
first_refused s (r ∷ rs) w = cond (eqb (objection s r) 0) (first_refused s rs w) (denied (objection s r) r.start)

-- what is accepted keeps its rows, unless one is refused; a refusal of plain reading stays
unfoldable pub strictly : List ℕ → Reading → Reading
strictly s (accepted rs) = first_refused s rs (accepted rs)
strictly s (denied n p) = denied n p

abbrev pub strict : List ℕ → Reading
strict s = strictly s (plain s)

-- ---- both profiles, of a part of a ledger and of a ledger

abbrev pub part_by : Profile → List ℕ → Reading
part_by Plain s = part s
part_by Strict s = strictly s (part s)

abbrev pub reading_by : Profile → List ℕ → Reading
reading_by Plain s = plain s
reading_by Strict s = strict s
