-- Document 01's edges of single expressions and of string content, and the examples of the decided points 4 to 10 and
-- 25: one list under one statement for each, by computation.
use Rattle.text.specs.Refusals.{refused_with}
use Rattle.decimal.specs.declared.Decimal.{Decimal}
use Rattle.text.specs.declared.stop.Refused.{Refused}
use Rattle.std.specs.Prelude.{ℕ, ◌≡◌, refl, true, false, List, [], ◌∷◌, ◌++◌, map, length, replicate, Err, Ok, Result}
use Prim.Native.Char.{code}
use Prim.Native.String.{String}
use Rattle.decimal.specs.declared.Form.TheVariants.{Exact}
use Rattle.text.specs.Bytes.{bytes}
use Rattle.amount.specs.Opened.{opened}
use Rattle.access.specs.Single.{value_answer, read_answer, evaluated}
use Rattle.access.specs.Contents.{ends_at, valid, unescaped, escaped_byte, content_answer, content_left}

-- ---- single expressions: a text and its answer

abbrev Single : Type 0
Single = List ℕ × Result (ℕ × Decimal) Refused

-- millionths, and the same below zero
abbrev is : String → ℕ → ℕ → Single
is s e n = (bytes s, Ok (e, (record { minus = false; size = n })))

abbrev less : String → ℕ → ℕ → Single
less s e n = (bytes s, Ok (e, (record { minus = true; size = n })))

abbrev refused : String → ℕ → ℕ → Single
refused s n p = (bytes s, Err (refused_with n p 0))

unfoldable pub singles : List Single
singles =
    refused "" 11 0
    ∷ is "5" 1 5000000
    ∷ is " 5" 2 5000000
    ∷ refused "\t5" 11 0
    ∷ refused " -5" 11 0
    ∷ refused " (5)" 11 0
    ∷ refused "1.2.3+1" 11 0
    ∷ is "1, 2" 2 1000000
    ∷ less "-(2)*3" 4 2000000
    ∷ less "-(2) + 1" 4 2000000
    ∷ is "2*-(3)" 1 2000000
    ∷ is "2--3" 4 5000000
    ∷ less "- 5" 3 5000000
    ∷ is "1,2,.5" 6 12500000
    ∷ refused "1/3" 7 0
    ∷ refused "1/0" 8 0
    ∷ refused "0.0000001" 7 0
    ∷ refused "999999999.999999*1.000001" 6 0
    ∷ refused "2+(1/0)" 8 0
    ∷ (code "1" ∷ code " " ∷ 0 ∷ [], Err (refused_with 2 2 0))
    ∷ (0 ∷ [], Err (refused_with 2 0 0))
    ∷ refused "5\r" 2 1
    ∷ is "5\r\n" 1 5000000
    ∷ (replicate 32 (code "(") ++ code "2" ∷ replicate 32 (code ")"), Ok (65, (record { minus = false; size = 2000000 })))
    ∷ (replicate 33 (code "(") ++ code "2" ∷ replicate 33 (code ")"), Err (refused_with 3 32 0))
    ∷ (replicate 33 (code "("), Err (refused_with 3 32 0))
    ∷ (replicate 33 (code "(") ++ 0 ∷ [], Err (refused_with 2 33 0))
    ∷ []

-- every single expression gives the answer that it says, in the exact form
pub singles_answer : map (λ x. evaluated Exact x.0) singles ≡ map (λ x. x.1) singles
unfolding opened singles value_answer read_answer evaluated
singles_answer = refl

-- ---- string content: its answer with a buffer of four points, and the buffer afterwards

abbrev buffer : List ℕ
buffer = bytes "...."

abbrev Filled : Type 0
Filled = List ℕ × (Result ℕ Refused × List ℕ)

abbrev gives : String → ℕ → String → Filled
gives c n t = (bytes c, (Ok n, bytes t))

abbrev bad : String → Filled
bad c = (bytes c, (Err (refused_with 10 0 0), buffer))

unfoldable pub contents : List Filled
contents =
    gives "" 0 "...."
    ∷ gives "a" 1 "a..."
    ∷ gives "a\nb" 3 "a\nb."
    ∷ gives "a\\\"b" 3 "a\"b."
    ∷ gives "a\\\\" 2 "a\\.."
    ∷ gives "abcd" 4 "abcd"
    ∷ gives "abc\\\"" 4 "abc\""
    ∷ (0 ∷ [], (Ok 1, 0 ∷ bytes "..."))
    ∷ (bytes "abcde", (Err (refused_with 9 0 5), buffer))
    ∷ (bytes "a\\\"bcd", (Err (refused_with 9 0 5), buffer))
    ∷ bad "\""
    ∷ bad "a\"b"
    ∷ bad "\\\""
    ∷ bad "a\\"
    ∷ bad "a\\n"
    ∷ bad "a\\\\\\\\"
    ∷ bad "abcde\""
    ∷ []

-- all content gives the answer and the bytes that it says
pub contents_filled : map (λ x. (content_answer x.0 (length buffer), content_left x.0 buffer)) contents ≡ map (λ x. x.1) contents
unfolding opened contents ends_at valid unescaped escaped_byte content_answer content_left
contents_filled = refl
