-- String content without its escapes. Content is valid if rule 5, given it between quotes, reads all of it.
use Rattle.text.specs.Refusals.{refused_with}
use Rattle.text.specs.declared.stop.Refused.{Refused}
use Rattle.std.specs.Prelude.{ℕ, ◌+◌, Bool, false, cond, List, [], ◌∷◌, ◌++◌, eqb, leb, length, drop, None, Option, Some, Err, Ok, Result}
use Prim.Native.Char.{code}
use Rattle.text.specs.Strings.{string_at}

-- whether a reading ends there
unfoldable pub ends_at : ℕ → Option ℕ → Bool
ends_at n (Some j) = eqb j n
ends_at n None = false

unfoldable pub valid : List ℕ → Bool
valid c = ends_at (length c + 2) (string_at (code "\"" ∷ (c ++ (code "\"" ∷ []))) 0)

-- each byte but an escape's backslash
unfoldable mutual
  pub unescaped : List ℕ → List ℕ
  unescaped [] = []
  unescaped (b ∷ c) = cond (eqb b (code "\\")) (escaped_byte c) (b ∷ unescaped c)

  pub escaped_byte : List ℕ → List ℕ
  escaped_byte [] = []
  escaped_byte (b ∷ c) = b ∷ unescaped c

-- 10, then 9 with the need in bytes
unfoldable pub content_answer : List ℕ → ℕ → Result ℕ Refused
content_answer c room =
    cond (valid c)
    (cond (leb (length (unescaped c)) room) (Ok (length (unescaped c))) (Err (refused_with 9 0 (length (unescaped c)))))
    (Err (refused_with 10 0 0))

-- every byte of the buffer afterwards: a refusal leaves it as it was
unfoldable pub content_left : List ℕ → List ℕ → List ℕ
content_left c t = cond (valid c) (cond (leb (length (unescaped c)) (length t)) (unescaped c ++ drop (length (unescaped c)) t) t) t
