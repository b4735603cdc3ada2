-- Rule 3. Date (H): four digits, `-`, two, `-`, two; month 01 to 12, day 01 to 31.
use Rattle.std.specs.Prelude.{ℕ, ◌+◌, ◌-◌, ◌*◌, Bool, true, false, cond, ◌&&◌, List, [], ◌∷◌, eqb, leb, drop, get_or, None, Option, Some}
use Prim.Native.Char.{code}
use Rattle.text.specs.Bytes.{is_digit}

-- a byte of a shape: 0 stands for any digit, any other byte for itself
unfoldable pub as_shape : ℕ → ℕ → Bool
as_shape w b = cond (eqb w (code "0")) (is_digit b) (eqb b w)

-- whether a text starts with bytes of a shape
unfoldable pub like_shape : List ℕ → List ℕ → Bool
like_shape [] s = true
like_shape (w ∷ ws) [] = false
like_shape (w ∷ ws) (b ∷ s) = as_shape w b && like_shape ws s

-- 0000-00-00
abbrev pub date_shape : List ℕ
date_shape =
    let d = code "0" in
    let m = code "-" in
    d ∷ d ∷ d ∷ d ∷ m ∷ d ∷ d ∷ m ∷ d ∷ d ∷ []

-- two digits as a number
unfoldable pub two : List ℕ → ℕ → ℕ
two s at = (get_or s at 0 - code "0") * 10 + (get_or s (at + 1) 0 - code "0")

-- the date whose shape stands at a place: year times 10,000 plus month times 100 plus day
unfoldable pub date_in : List ℕ → ℕ → Option (ℕ × ℕ)
date_in s at =
    let m = two s (at + 5) in
    let d = two s (at + 8) in
    cond (leb 1 m && leb m 12 && leb 1 d && leb d 31) (Some ((at + 10), (two s at * 1000000 + two s (at + 2) * 10000 + m * 100 + d))) None

unfoldable pub date_at : List ℕ → ℕ → Option (ℕ × ℕ)
date_at s at = cond (like_shape date_shape (drop at s)) (date_in s at) None
