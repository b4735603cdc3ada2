-- Rule 9. Literal: optional `-`, blanks, longest run of digits, `.`, `,`. With spaces and commas dropped it must be an
-- optional `-`, digits, at most one `.`, at least one digit. A tab stays, so it misses: of blanks only spaces may stand.
use Rattle.decimal.specs.Faults.{Value}
use Rattle.std.specs.Prelude.{ℕ, suc, ◌+◌, ◌-◌, ◌*◌, ◌^◌, Bool, true, false, cond, ◌&&◌, ◌||◌, List, [], ◌∷◌, leb, eqb, get_or}
use Prim.Native.Char.{code}
use Rattle.decimal.specs.Exact.{exact}
use Rattle.text.specs.Bytes.{is_digit, is_space, between}
use Rattle.text.specs.Run.{run_to}
use Rattle.text.specs.Answer.{Ans, To, Miss}

-- a digit, `.` or `,`
unfoldable pub in_literal : ℕ → Bool
in_literal b = is_digit b || eqb b (code ".") || eqb b (code ",")

-- how many bytes are such
unfoldable pub count : (ℕ → Bool) → List ℕ → ℕ
count p [] = 0
count p (b ∷ s) = cond (p b) (suc (count p s)) (count p s)

abbrev pub is_point : ℕ → Bool
is_point b = eqb b (code ".")

-- the number that the digits write, going on from n
unfoldable pub number : ℕ → List ℕ → ℕ
number n [] = n
number n (b ∷ s) = number (cond (is_digit b) (n * 10 + (b - code "0")) n) s

-- how many digits stand after the `.`
unfoldable pub places : List ℕ → ℕ
places [] = 0
places (b ∷ s) = cond (is_point b) (count is_digit s) (places s)

-- digits, at most one `.`, at least one digit
unfoldable pub is_number : List ℕ → Bool
is_number s = leb 1 (count is_digit s) && leb (count is_point s) 1

-- the reading of the bytes s, which end at e: the digits' number over a power of ten, in millionths
unfoldable pub literal_as : Bool → List ℕ → ℕ → Ans Value
literal_as minus s e = cond (is_number s) (To e (exact minus (number 0 s * 1000000) (10 ^ places s))) Miss

-- a literal whose sign, if any, ends at b: spaces are dropped, and a tab would stay, and miss
unfoldable pub unsigned : Bool → List ℕ → ℕ → Ans Value
unsigned minus s b =
    let c = run_to is_space s b in
    let e = run_to in_literal s c in
    literal_as minus (between s c e) e

unfoldable pub literal : List ℕ → ℕ → Ans Value
literal s at =
    let below = unsigned true s (at + 1) in
    let above = unsigned false s at in
    cond (eqb (get_or s at 0) (code "-")) below above
