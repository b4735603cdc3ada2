-- Byte classes of document 01. A text is the list of its bytes; past its end a byte reads as 0, and no rule reads on.
use Rattle.std.specs.Prelude.{ℕ, ◌-◌, Bool, ◌||◌, ◌&&◌, not, List, [], ◌∷◌, leb, eqb, take, drop}
use Prim.Native.Char.{code}
use Prim.Native.String.{String}

-- Blank: space or tab.
unfoldable pub is_blank : ℕ → Bool
is_blank b = eqb b (code " ") || eqb b (code "\t")

-- Rule 9. A space alone.
unfoldable pub is_space : ℕ → Bool
is_space b = eqb b (code " ")

unfoldable pub is_digit : ℕ → Bool
is_digit b = leb (code "0") b && leb b (code "9")

unfoldable pub is_small : ℕ → Bool
is_small b = leb (code "a") b && leb b (code "z")

unfoldable pub is_capital : ℕ → Bool
is_capital b = leb (code "A") b && leb b (code "Z")

-- Rule 1. What a line holds before its LF.
unfoldable pub in_line : ℕ → Bool
in_line b = not (eqb b (code "\n"))

-- Rule 2. What a comment holds: all but CR and LF.
unfoldable pub in_comment : ℕ → Bool
in_comment b = not (eqb b (code "\n")) && not (eqb b (code "\r"))

-- Rule 5. Ordinary: any byte, LF too, but `"` and `\`.
unfoldable pub is_ordinary : ℕ → Bool
is_ordinary b = not (eqb b (code "\"")) && not (eqb b (code "\\"))

-- Rule 5. What an escape's backslash stands before: `"` or `\`.
unfoldable pub is_escaped : ℕ → Bool
is_escaped b = eqb b (code "\"") || eqb b (code "\\")

-- Rule 6. What a part of an account starts with, and rule 7, what a currency ends with: a capital or digit.
unfoldable pub starts_part : ℕ → Bool
starts_part b = is_capital b || is_digit b

-- Rule 6. What follows in a part: letters, digits, `-`.
unfoldable pub in_account : ℕ → Bool
in_account b = is_capital b || is_small b || is_digit b || eqb b (code "-")

-- Rule 7. Capitals, digits, `-`, `_`, `.`, `'`.
unfoldable pub in_currency : ℕ → Bool
in_currency b = is_capital b || is_digit b || eqb b (code "-") || eqb b (code "_") || eqb b (code ".") || eqb b (code "'")

-- Rules 14 and 16. Letters, digits, `-`, `_`.
unfoldable pub in_tag : ℕ → Bool
in_tag b = is_capital b || is_small b || is_digit b || eqb b (code "-") || eqb b (code "_")

-- Rule 14. In a link also `.`.
unfoldable pub in_link : ℕ → Bool
in_link b = in_tag b || eqb b (code ".")

-- the bytes of a text that is written out
unfoldable pub bytes : String → List ℕ
bytes String.[] = []
bytes (String.◌∷◌ c s) = code c ∷ bytes s

-- the bytes of a text from place a up to e
abbrev pub between : List ℕ → ℕ → ℕ → List ℕ
between s a e = take (e - a) (drop a s)
