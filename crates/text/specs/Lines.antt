-- Gaps, commas, and rule 2.
use Rattle.std.specs.Prelude.{ℕ, ◌+◌, cond, ◌&&◌, List, eqb, ltb, leb, get_or, length, None, Option, Some}
use Prim.Native.Char.{code}
use Rattle.text.specs.Bytes.{in_comment}
use Rattle.text.specs.Run.{run_to, blanks}

-- Gap: one blank or more.
unfoldable pub gap_at : List ℕ → ℕ → Option ℕ
gap_at s at = cond (ltb at (blanks s at)) (Some (blanks s at)) None

-- Rules 10 and 13. Blanks may stand around a comma.
unfoldable pub comma_at : List ℕ → ℕ → Option ℕ
comma_at s at = let b = blanks s at in cond (eqb (get_or s b 0) (code ",")) (Some (blanks s (b + 1))) None

-- Rule 2. Line end: blanks, optional `;` comment, then LF, CRLF or end of ledger.
unfoldable pub comment_end : List ℕ → ℕ → ℕ
comment_end s at = cond (eqb (get_or s at 0) (code ";")) (run_to in_comment s (at + 1)) at

unfoldable pub eol_at : List ℕ → ℕ → Option ℕ
eol_at s at =
    cond (eqb (get_or s at 0) (code "\n")) (Some (at + 1))
    (cond (eqb (get_or s at 0) (code "\r") && eqb (get_or s (at + 1) 0) (code "\n")) (Some (at + 2))
    (cond (leb (length s) at) (Some at) None))

unfoldable pub line_end_at : List ℕ → ℕ → Option ℕ
line_end_at s at = eol_at s (comment_end s (blanks s at))

-- Rules 11 and 16. An empty or comment line: a line end that takes at least one byte.
unfoldable pub empty_at : List ℕ → ℕ → Option ℕ
empty_at s at = cond (ltb at (length s)) (line_end_at s at) None
